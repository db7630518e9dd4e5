use Rattle.std.proofs.Common.{◌≡◌, map, string_bytes, take}
use Rattle.rnc_places.proofs.MentionedNames.{name_in}
use Rattle.rnc_places.proofs.mentions.names_in.Given as goal

abbrev pub invariant-loop-file : goal.invariant-loop-file
invariant-loop-file l = map string_bytes l.names.items ≡ map name_in (take l.file-index l.file-items)

use Rattle.std.proofs.Common.{◌≡◌, map, take}
use Rattle.rng_load.proofs.Overriding.MentionedNames.{href_of}
use Rattle.rng_load.proofs.mentioned.hrefs.Given as goal

abbrev pub invariant-loop-file : goal.invariant-loop-file
invariant-loop-file l = map (λ n. n.now) l.names.items ≡ map href_of (take l.file-index l.file-items)

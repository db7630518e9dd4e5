use Rattle.std.proofs.Common.{rules}
use Rattle.std.specs.Str.{IsUtf8}
use Rattle.rnc_text.proofs.Cursors.{seam}
use Rattle.rnc_text.proofs.cursor.Cursor.text_to.Goals as goal

pub split_at-requires : goal.split_at-requires
split_at-requires c = let u : IsUtf8 c.args.end.rest.now = search rules in seam _ _ c.requires.taken u c.requires.past.bytes

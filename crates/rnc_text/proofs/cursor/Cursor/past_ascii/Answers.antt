use Rattle.std.proofs.Common.{rules, refl}
use Rattle.std.proofs.lemmas.List.{nil_from_length}
use Rattle.std.specs.Str.{IsUtf8}
use Rattle.rnc_text.proofs.AsciiRuns.{ascii_boundary, walks_ascii}
use Rattle.rnc_text.proofs.ScanResults.{walks_none}
use Rattle.rnc_text.proofs.cursor.Cursor.past_ascii.Goals as goal

pub split_at-requires : goal.split_at-requires
split_at-requires c = let u : IsUtf8 c.args.self.rest.now = search rules in ascii_boundary c.args.class _ _ u c.ascii_len.ensures

pub returns : goal.returns
returns c =
    walks_ascii c.args.class c.args.self _ c.split_at.result.0.now _ (nil_from_length _ (search rules)) c.split_at.ensures.back c.split_at.ensures.front c.ascii_len.ensures refl refl

pub returns-then-not-is_empty : goal.returns-then-not-is_empty
returns-then-not-is_empty c = walks_none _ _

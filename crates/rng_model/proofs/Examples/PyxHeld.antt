-- What has to be kept of documents that have not ended.
use Rattle.std.proofs.Common.{◌≡◌, refl, inr, true, codes, ℕ, List, [], ◌∷◌, ◌++◌}
use Rattle.std.proofs.lemmas.List.Elements.{All-nil, All-cons}
use Rattle.rng_model.specs.documents.Lines.{Line, lines, HasKind, nothing}
use Rattle.rng_model.specs.documents.PyxClauses.{none_open}
use Rattle.rng_model.specs.documents.PyxHeld.{KeptOf, in_tag, of_none}
use Rattle.rng_model.proofs.Examples.Pyx.{whole}

-- `(a`, `Ax 1` and the beginning `-y` of a line: both lines of the tag are kept, since a third may follow, and the two
-- bytes of the line that has begun
abbrev begun : List ℕ
begun = codes "(a" ++ 10 ∷ (codes "Ax 1" ++ 10 ∷ codes "-y")

IsEnded : Line → Type 0
IsEnded l = l.ended ≡ true

pub eight_kept : KeptOf begun 8
unfolding lines IsEnded
eight_kept = in_tag {whole = whole (codes "(a") ∷ whole (codes "Ax 1") ∷ []} {begun = codes "-y"} {outer = []}
    (record {
      ended = All-cons IsEnded (whole (codes "(a")) (whole (codes "Ax 1") ∷ []) refl (All-cons IsEnded (whole (codes "Ax 1")) [] refl (All-nil IsEnded));
      parts = inr refl;
    })
    (record {
      front = [];
      tag = whole (codes "(a");
      others = whole (codes "Ax 1") ∷ [];
      parts = refl;
      opens = (codes "a", refl);
      each = All-cons (HasKind 65) (whole (codes "Ax 1")) [] (codes "x 1", refl) (All-nil (HasKind 65));
    })
    (none_open nothing) of_none refl

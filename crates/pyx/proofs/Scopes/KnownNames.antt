-- Known names have the expanded names that they had at their look-up.
use Rattle.std.proofs.Common.{◌≡◌, ◌<◌, ◌∙◌, ℕ, List, [], ◌∷◌, ◌++◌, length, Some, ap, sym, subst, arith, get_or, string_bytes}
use Rattle.std.specs.List.{All}
use Rattle.std.specs.Prelude.{slice_set}
use Rattle.std.proofs.lemmas.List.{get_or-map, get_or-set_same, length-set}
use Rattle.std.proofs.lemmas.List.Elements.{All-push, All-set}
use Rattle.rng_model.specs.names.Names.{Name}
use Rattle.rng_model.specs.names.NameViews.{name_of}
use Rattle.pyx.specs.declared.known.KnownName.{KnownName}
use Rattle.pyx.specs.plain.WrittenNames.{written_of}
use Rattle.pyx.specs.plain.Declarations.{Declared}
use Rattle.pyx.specs.plain.TagReader.{element_name}
use Rattle.pyx.specs.views.ElementView.{AreKnown, IsJudged, IsKnown, IsPlace, name_at, names_of}

-- a place with a name of this round
pub known_there : (scope : Declared) (round : ℕ) (known : List KnownName) (at : ℕ) (k : KnownName) (written : List ℕ) → at < length known
    → k ≡ get_or known at k → k.round ≡ round → string_bytes k.written ≡ written → AreKnown scope round known
    → IsJudged written × IsPlace scope written known at
known_there scope round known at k written inside there same alike all =
    let says : IsKnown scope round k = subst (IsKnown scope round) (sym there) (all.1 at k inside) in
    let read : name_at (names_of known) at ≡ name_of k.name =
    get_or-map (λ k. name_of k.name) known at k _ inside ∙ ap (λ (q : KnownName). name_of q.name) (sym there) in (
      subst IsJudged alike (says.1 same).0,
      (inside, ap (λ w. element_name scope (written_of w)) (sym alike) ∙ (says.1 same).1 ∙ ap Some (sym read)),
    )

-- one more place, in which nothing is known
pub known_more : (scope : Declared) (round : ℕ) (known more : List KnownName) (k : KnownName) → more ≡ known ++ k ∷ [] → k.round ≡ 0
    → AreKnown scope round known → AreKnown scope round more
known_more scope round known more k e h all =
    let last : IsKnown scope round k = (omega (arith, h), λ same. absurd (omega (arith, h, same, all.0))) in
    (all.0, subst (All (IsKnown scope round)) (sym e) (All-push (IsKnown scope round) known k all.1 last))

-- another name in one place
pub known_set : (scope : Declared) (round : ℕ) (known : List KnownName) (at : ℕ) (k : KnownName) → IsKnown scope round k → AreKnown scope round known
    → AreKnown scope round (slice_set known at k)
known_set scope round known at k h all = (all.0, All-set (IsKnown scope round) known at k h all.1)

pub name_set : (known : List KnownName) (at : ℕ) (k : KnownName) (q : Name) → at < length known → name_of k.name ≡ q
    → name_at (names_of (slice_set known at k)) at ≡ q
name_set known at k q inside e = get_or-map (λ k. name_of k.name) (slice_set known at k) at k _ (omega (arith, inside, length-set known at k))
    ∙ ap (λ (n : KnownName). name_of n.name) (get_or-set_same known at k k inside) ∙ e

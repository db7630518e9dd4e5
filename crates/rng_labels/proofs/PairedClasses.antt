-- A name class of the code in which each choice has two members, and its view.
use Rattle.std.proofs.Common.{◌≡◌, ◌∙◌, ◌==◌, Bool, true, List, [], ◌∷◌, length, map, sym, subst, arith}
use Rattle.std.proofs.lemmas.Bool.{and_parts, eqb-true}
use Rattle.std.specs.List.{list_all}
use Rattle.rng_model.specs.names.Names as names
use Rattle.rng_model.specs.names.Names.{some_of}
use Rattle.rng_model.specs.names.NameViews.{class_of, class_step}
use Rattle.rng_model.specs.simple.TableRules.{IsPaired, paired_step}
use Rattle.rng_model.specs.declared.name.NameClass.{NameClass, fold-NameClass, fold-roll-NameClass, ind-NameClass, map-NameClass}
use Rattle.rng_model.specs.declared.name.NameClass.TheOpen.{NameClass-F}
use Rattle.rng_labels.specs.plain.LabelCodes.{IsInTwos}

abbrev paired : NameClass → Bool
paired = fold-NameClass Bool paired_step

abbrev IsSeenInTwos : NameClass → Type 0
IsSeenInTwos c = IsPaired c → IsInTwos (class_of c)

abbrev Seen : Type 0
Seen = (c : NameClass) × IsSeenInTwos c

abbrev insides : List Seen → List NameClass
insides all = map (λ e. e.0) all

two_members : (all : List Seen) → (length (map paired (insides all)) == 2) ≡ true → list_all (λ b. b) (map paired (insides all)) ≡ true
    → IsInTwos (some_of (map class_of (insides all)))
two_members [] l h = absurd (let n = eqb-true 0 2 l in omega (arith, n))
two_members (a ∷ []) l h = absurd (let n = eqb-true 1 2 l in omega (arith, n))
two_members (a ∷ (b ∷ [])) l h =
    let first = and_parts (paired a.0) (list_all (λ b. b) (map paired (insides (b ∷ [])))) h in
    let second = and_parts (paired b.0) (list_all (λ b. b) (map paired (insides []))) first.1 in
    (a.1 first.0, b.1 second.0)
two_members (a ∷ (b ∷ (c ∷ cs))) l h = absurd (let n = eqb-true (length (map paired (insides (a ∷ (b ∷ (c ∷ cs)))))) 2 l in omega (arith, n))

-- one level, given what is known of each class inside
level : (y : NameClass-F Seen) → paired_step (map-NameClass NameClass Bool paired (map-NameClass Seen NameClass (λ e. e.0) y)) ≡ true
    → IsInTwos (class_step (map-NameClass NameClass names.NameClass class_of (map-NameClass Seen NameClass (λ e. e.0) y)))
level NameClass-F.Any h = tt
level (NameClass-F.AnyExcept except) h = except.value.1 h
level (NameClass-F.Ns ns) h = tt
level (NameClass-F.NsExcept ns except) h = except.value.1 h
level (NameClass-F.Name n) h = tt
level (NameClass-F.Choice all) h =
    let both = and_parts (length (map paired (insides all.items)) == 2) (list_all (λ b. b) (map paired (insides all.items))) h in
    two_members all.items both.0 both.1

pub paired_is : (c : NameClass) → IsPaired c → IsInTwos (class_of c)
paired_is = ind-NameClass IsSeenInTwos (λ x y is h.
    let seen = level y (subst (λ z. paired_step (map-NameClass NameClass Bool paired z) ≡ true) (sym is) (sym (fold-roll-NameClass Bool paired_step x) ∙ h)) in
    subst IsInTwos (sym (fold-roll-NameClass names.NameClass class_step x))
    (subst (λ z. IsInTwos (class_step (map-NameClass NameClass names.NameClass class_of z))) is seen))

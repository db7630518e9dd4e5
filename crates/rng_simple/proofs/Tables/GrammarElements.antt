-- Elements of a grammar, one by one.
use Rattle.std.proofs.Common.{◌≡◌, inl, inr, sym, subst, ℕ, List, [], ◌∷◌, ◌++◌, arith}
use Rattle.std.proofs.Common.{length-append}
use Rattle.std.proofs.lemmas.Option.{slice_get_within}
use Rattle.rng_model.proofs.Places.{before_or_at_end}
use Rattle.rng_model.specs.names.Names as names
use Rattle.rng_model.specs.declared.name.NameClass.{NameClass}
use Rattle.rng_model.specs.declared.simple.PatternId.{PatternId}
use Rattle.rng_simple.specs.views.GrammarElements.{IsElementCopy, AreElementCopies}

module _ (classes : List names.NameClass) (contents places : List ℕ) where
  pub no_elements : AreElementCopies classes contents places [] []
  no_elements = record { count = omega arith; each = λ n k e f h. absurd (let i = slice_get_within [] n k f in omega arith) }

  pub elements_next : (ks js : List ℕ) (es ds : List (NameClass × PatternId)) (k : ℕ) (e : NameClass × PatternId)
      → AreElementCopies classes contents places ks es
      → IsElementCopy classes contents places k e → js ≡ ks ++ k ∷ [] → ds ≡ es ++ e ∷ [] → AreElementCopies classes contents places js ds
  elements_next ks js es ds k e are is more longer = subst (λ xs. AreElementCopies classes contents places xs ds) (sym more)
      (subst (λ xs. AreElementCopies classes contents places (ks ++ k ∷ []) xs) (sym longer) (record {
        count = omega (arith, are.count, length-append ks (k ∷ []), length-append es (e ∷ []));
        each = λ n j d f h. elim (before_or_at_end ks k j n f) [
          | inl a ↦ elim (before_or_at_end es e d n h) [
            | inl b ↦ are.each n j d a b
            | inr b ↦ absurd (let i = slice_get_within ks n j a in omega (arith, b.0, i, are.count))
          ]
          | inr a ↦ elim (before_or_at_end es e d n h) [
            | inl b ↦ absurd (let i = slice_get_within es n d b in omega (arith, a.0, i, are.count))
            | inr b ↦ subst (λ x. IsElementCopy classes contents places x d) (sym a.1) (subst (IsElementCopy classes contents places k) (sym b.1) is)
          ]
        ];
      }))

-- the same under equal names
pub copies_as : (classes more_classes : List names.NameClass) (contents more_contents places more_places listed more_listed : List ℕ)
    (es : List (NameClass × PatternId)) → classes ≡ more_classes → contents ≡ more_contents → places ≡ more_places → listed ≡ more_listed
    → AreElementCopies classes contents places listed es → AreElementCopies more_classes more_contents more_places more_listed es
copies_as classes more_classes contents more_contents places more_places listed more_listed es d e f g are =
    subst (λ xs. AreElementCopies more_classes more_contents more_places xs es) g
    (subst (λ xs. AreElementCopies more_classes more_contents xs listed es) f
    (subst (λ xs. AreElementCopies more_classes xs places listed es) e (subst (λ xs. AreElementCopies xs contents places listed es) d are)))

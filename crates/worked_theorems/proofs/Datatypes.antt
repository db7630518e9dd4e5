-- Datatypes and excepts (RELAX NG Specification, sections 6.2.8 and 6.2.9; XML Schema Part 2).
use Rattle.std.proofs.Common.{◌≡◌, ℕ, List, [], ◌∷◌, codes, refl, sym, ap, subst, inl, inr, true≢false}
use Rattle.std.specs.Prelude.{IsTrue}
use Rattle.rng_model.specs.simple.Tree.{Datatype, Tree, choice, group, list, value, joined, no_trees}
use Rattle.rng_model.specs.matching.Document.{in_order}
use Rattle.rng_model.specs.datatypes.Texts.{Texts, texts_of, collapse, pieces}
use Rattle.rng_model.specs.matching.Matching.{Lex, HasText}
use Rattle.rng_model.specs.datatypes.Facets.{short_integer_of, written_range}
use Rattle.rng_model.specs.datatypes.Datatypes.{xsd_uri, text_tests, type_named, IsAllowed, IsKnownDatatype}

abbrev token_type : Datatype
token_type = record { library = []; name = codes "token"; parameters = [] }

abbrev integer_type : List (List ℕ × List ℕ) → Datatype
integer_type parameters = record { library = xsd_uri; name = codes "integer"; parameters = parameters }

-- two texts have the same value in the datatype
abbrev AreEqual : Datatype → List ℕ → List ℕ → Type 0
AreEqual d v w = IsTrue (text_tests.equals d v w)

-- `01` and `1` are the same value of `xsd:integer` (XML Schema Part 2, section 3.3.13)
integers_are_equal : AreEqual (integer_type []) (codes "01") (codes "1")
unfolding type_named written_range collapse pieces short_integer_of
integers_are_equal = refl

-- they are two values of `token` (RELAX NG Specification, section 6.2.9)
tokens_differ : ¬ (AreEqual token_type (codes "01") (codes "1"))
unfolding type_named collapse pieces
tokens_differ h = true≢false (sym h)

-- `xsd:integer { minInclusive = "1" }` allows ` 2 ` and not `0` (XML Schema Part 2, sections 4.3.6 and 4.3.10)
within_the_bound : IsAllowed (integer_type ((codes "minInclusive", codes "1") ∷ [])) (codes " 2 ")
unfolding type_named written_range collapse pieces short_integer_of
within_the_bound = refl

below_the_bound : ¬ (IsAllowed (integer_type ((codes "minInclusive", codes "1") ∷ [])) (codes "0"))
unfolding type_named written_range collapse pieces short_integer_of
below_the_bound h = true≢false (sym h)

-- `xsd:integer { minLength = "1" }` is not a datatype that is known: `integer` has no such parameter (section 4.16)
no_such_parameter : ¬ (IsKnownDatatype (integer_type ((codes "minLength", codes "1") ∷ [])))
unfolding type_named written_range
no_such_parameter h = true≢false (sym h)

-- ---- the content of an except

abbrev the_texts : Texts
the_texts = texts_of text_tests

abbrev literal : List ℕ → Tree ℕ
literal v = value token_type v

-- `"a" | "b"`
abbrev a_or_b : Tree ℕ
a_or_b = joined choice (literal (codes "a")) (literal (codes "b")) no_trees

-- the except of `token - ("a" | "b")` has `b`, so the data does not match it (section 6.2.8)
except_has_a_side : HasText the_texts a_or_b (codes "b")
unfolding type_named collapse pieces
except_has_a_side = inr (inl (codes "b", refl, refl))

abbrev first_text : List (List ℕ) → List ℕ
first_text [] = []
first_text (w ∷ ws) = w

equal_to_c : (v w : List ℕ) → codes "c" ∷ [] ≡ w ∷ [] → AreEqual token_type v w → AreEqual token_type v (codes "c")
equal_to_c v w e h = subst (λ u. AreEqual token_type v u) (sym (ap first_text e)) h

-- it does not have `c` (section 6.2.8)
except_has_no_other : ¬ (HasText the_texts a_or_b (codes "c"))
unfolding type_named collapse pieces
except_has_no_other (inl (w, e, h)) = true≢false (sym (equal_to_c (codes "a") w e h))
except_has_no_other (inr (inl (w, e, h))) = true≢false (sym (equal_to_c (codes "b") w e h))
except_has_no_other (inr (inr h)) = h

-- `"a", "b"`
abbrev a_then_b : Tree ℕ
a_then_b = joined group (literal (codes "a")) (literal (codes "b")) no_trees

-- `list { "a", "b" }` has the text `a b`, whose pieces are those of `"a", "b"` (section 6.2.10)
list_has_one_text : Lex the_texts (list a_then_b) (codes "a b" ∷ [])
unfolding type_named collapse pieces
list_has_one_text = (
  codes "a b",
  refl,
  (
    codes "a" ∷ [],
    codes "b" ∷ [],
    (codes "a", refl, refl),
    (codes "b" ∷ [], [], (codes "b", refl, refl), refl, in_order refl),
    in_order refl,
  ),
)

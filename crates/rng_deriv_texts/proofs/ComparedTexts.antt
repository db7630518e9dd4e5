-- Types whose values are texts: texts that are equal by such a type are one text once their blanks are collapsed.
use Rattle.std.proofs.Common.{◌≡◌, ◌∙◌, ℕ, List, [], ◌∷◌, Bool, true, false, if◌then◌else◌, refl, sym, ap, rules}
use Rattle.std.specs.List.{slice_split, onto_first, filter, join_with_byte}
use Rattle.std.proofs.lemmas.List.Splits.{slice_split-cons_yes, slice_split-cons_no}
use Rattle.std.proofs.lemmas.Slice.Eq.{bytes_eq-Decides}
use Rattle.rng_model.specs.datatypes.Texts.{are_equal, collapse, has_bytes, is_blank_byte, pieces, text_if}
use Rattle.rng_model.specs.datatypes.Datatypes.{xsd_string, xsd_ncname, xsd_nmtoken, xsd_token}
use Rattle.rng_model.specs.datatypes.Facets.{Lengths, fits}
use Rattle.rng_model.specs.xsd.Names.{replaced, replaced_byte}
use Rattle.rng_model.specs.xsd.Types.{xsd_list, xsd_normalized, xsd_word}
use Rattle.rng_deriv_texts.specs.plain.ValueWays.{ComparesTexts}

-- ---- blanks that are replaced

split_step : (b : ℕ) (s : List ℕ) (c : Bool) → is_blank_byte b ≡ c → slice_split is_blank_byte (replaced s) ≡ slice_split is_blank_byte s
    → slice_split is_blank_byte (replaced_byte b ∷ replaced s) ≡ slice_split is_blank_byte (b ∷ s)
split_step b s true e same =
    ap (λ c. slice_split is_blank_byte ((if c then 32 else b) ∷ replaced s)) e ∙ slice_split-cons_yes is_blank_byte 32 (replaced s) refl
    ∙ ap (λ ps. [] ∷ ps) same ∙ sym (slice_split-cons_yes is_blank_byte b s e)
split_step b s false e same =
    ap (λ c. slice_split is_blank_byte ((if c then 32 else b) ∷ replaced s)) e ∙ slice_split-cons_no is_blank_byte b (replaced s) e
    ∙ ap (onto_first b) same ∙ sym (slice_split-cons_no is_blank_byte b s e)

split_replaced : (s : List ℕ) → slice_split is_blank_byte (replaced s) ≡ slice_split is_blank_byte s
split_replaced [] = refl
split_replaced (b ∷ s) = split_step b s (is_blank_byte b) refl (split_replaced s)

collapse_replaced : (s : List ℕ) → collapse (replaced s) ≡ collapse s
unfolding collapse pieces
collapse_replaced s = ap (λ ps. join_with_byte 32 (filter has_bytes ps)) (split_replaced s)

-- ---- types

-- texts that passed their tests, and are the same value
same_text : (b c : Bool) (v w : List ℕ) → are_equal (text_if b v) (text_if c w) ≡ true → w ≡ v
same_text true true v w e = sym ((bytes_eq-Decides v w).0 e)
same_text true false v w e = search rules
same_text false c v w e = search rules

module _ (l : Lengths) where
  pub string_compares : ComparesTexts (xsd_string l)
  string_compares v w e = ap collapse (same_text (fits l v) (fits l w) v w e)

  pub normalized_compares : ComparesTexts (xsd_normalized l)
  normalized_compares v w e = sym (collapse_replaced w) ∙ ap collapse (same_text (fits l v) (fits l w) (replaced v) (replaced w) e) ∙ collapse_replaced v

  pub token_compares : ComparesTexts (xsd_token l)
  token_compares v w e = same_text _ _ (collapse v) (collapse w) e

  pub ncname_compares : ComparesTexts (xsd_ncname l)
  ncname_compares v w e = same_text _ _ (collapse v) (collapse w) e

  pub nmtoken_compares : ComparesTexts (xsd_nmtoken l)
  nmtoken_compares v w e = same_text _ _ (collapse v) (collapse w) e

  pub word_compares : (is_word : List ℕ → Bool) → ComparesTexts (xsd_word is_word l)
  word_compares is_word v w e = same_text _ _ (collapse v) (collapse w) e

  pub list_compares : (is_item : List ℕ → Bool) → ComparesTexts (xsd_list is_item l)
  list_compares is_item v w e = same_text _ _ (collapse v) (collapse w) e

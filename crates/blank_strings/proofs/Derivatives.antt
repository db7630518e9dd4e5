-- The derivatives by both documents are the same.
use Rattle.std.proofs.Common.{◌≡◌, refl, ap, ◌∙◌, Bool, true, false, cond}
use Rattle.rng_model.specs.matching.Document.{Item, Items, list_of}
use Rattle.rng_model.specs.matching.GrammarMatching.{Reading}
use Rattle.rng_deriv_laws.specs.plain.Blanks.{has_element, string_of}
use Rattle.rng_deriv_laws.specs.plain.States.{State, start_tag, string, end_tag, end_text, after_items, after_item}
use Rattle.blank_strings.specs.LeftOut.{LeavesOutBlanks, LeaveOutBlanks, same_string, same_tag, no_more, kept, left_out}

-- no element is left out
same_elements : {b : Bool} {ns ms : Items} → LeaveOutBlanks b ns ms → has_element (list_of ns) ≡ has_element (list_of ms)
same_elements no_more = refl
same_elements (kept same_string o) = same_elements o
same_elements (kept (same_tag i) o) = refl
same_elements (left_out p o) = same_elements o

-- without an element, nothing is left out
same_only_string : {b : Bool} {ns ms : Items} → LeaveOutBlanks b ns ms → b ≡ false → string_of (list_of ns) ≡ string_of (list_of ms)
same_only_string no_more e = refl
same_only_string (kept same_string o) e = refl
same_only_string (kept (same_tag i) o) e = refl
same_only_string (left_out p o) e = absurd (cc)

same_choice : (b c : Bool) {r s t u : State} → b ≡ c → r ≡ t → (b ≡ false → s ≡ u) → cond b r s ≡ cond c t u
same_choice true true e f h = f
same_choice true false e f h = absurd (cc)
same_choice false true e f h = absurd (cc)
same_choice false false e f h = h refl

module _ (g : Reading) where
  mutual
    pub same_after : {n m : Item} → LeavesOutBlanks n m → (r : State) → after_item g n r ≡ after_item g m r
    same_after same_string r = refl
    same_after (same_tag {q} {xs} {kids} {rest} o) r =
        let inside = start_tag g r q xs in
        same_choice (has_element (list_of kids)) (has_element (list_of rest)) (same_elements o) (ap end_tag (all_same_after o inside))
        (λ e. ap (λ s. end_text g inside s) (same_only_string o e))

    all_same_after : {b : Bool} {ns ms : Items} → LeaveOutBlanks b ns ms → (r : State) → after_items g ns r ≡ after_items g ms r
    all_same_after no_more r = refl
    all_same_after (kept {m = m} {ns = ns} i o) r = ap (λ r. after_items g ns r) (same_after i r) ∙ all_same_after o (after_item g m r)
    all_same_after (left_out {s = s} {ns = ns} p o) r = ap (λ b. after_items g ns (cond b r (string g r s))) p ∙ all_same_after o r

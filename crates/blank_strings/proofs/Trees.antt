-- Events of a document without some blank strings that are beside elements are those of the document without these strings.
use Rattle.std.proofs.Common.{◌≡◌, ℕ, List, [], ◌∷◌, ◌++◌, refl, sym, ap, ◌∙◌, subst, Bool, true, false, append_assoc}
use Rattle.rng_model.specs.names.Names.{Name}
use Rattle.rng_model.specs.matching.Document.{Attribute, a_text, Items, item_and, list_of}
use Rattle.rng_model.specs.datatypes.Texts.{is_blank}
use Rattle.rng_model.specs.documents.PyxTrees.{Event, a_start, a_string, an_end, Placed, PlacedItems, text_at, element_at, none_placed, placed_and}
use Rattle.rng_model.specs.documents.PyxTrees.{item_of, items_of, events_of, events_in}
use Rattle.rng_model.specs.documents.Telling.{IsPlacedElement}
use Rattle.rng_deriv_laws.specs.plain.Blanks.{has_element}
use Rattle.blank_strings.specs.LeftOut.{LeavesOutBlanks, LeaveOutBlanks, same_string, same_tag, no_more, kept, left_out}
use Rattle.blank_strings.proofs.Events.{BeginsBeside, LeaveOutStrings, no_events, stays, string_out}

abbrev start : ℕ → Name → List Attribute → Event
start n q xs = record { line = n; kind = a_start q xs }

abbrev end : ℕ → Event
end m = record { line = m; kind = an_end }

-- The first events are the children's and an end, and others behind it. So are the second, with the children that are left
-- of these. `c` is any truth value that is true if an element is before, or among the children.
record Left (b : Bool) (kids : PlacedItems) (m : ℕ) (behind fs : List Event) : Type 0 where
  rest : PlacedItems
  after : List Event
  parts : fs ≡ events_in rest ++ end m ∷ after
  later : LeaveOutStrings true behind after
  are : (c : Bool) → (b ≡ true → c ≡ true) → (has_element (list_of (items_of kids)) ≡ true → c ≡ true) → LeaveOutBlanks c (items_of kids) (items_of rest)

leave_out : (c : Bool) {s : List ℕ} {ns ms : Items} → c ≡ true → is_blank s ≡ true → LeaveOutBlanks c ns ms → LeaveOutBlanks c (item_and (a_text s) ns) ms
leave_out true e p o = left_out p o
leave_out false e p o = absurd (cc)

element_parts : (n : ℕ) (q : Name) (xs : List Attribute) (kids more : PlacedItems) (m : ℕ) (es : List Event) →
    events_in (placed_and (element_at n q xs kids m) more) ++ es ≡ start n q xs ∷ (events_in kids ++ end m ∷ (events_in more ++ es))
element_parts n q xs kids more m es =
    ap (λ l. start n q xs ∷ l)
    (append_assoc (events_in kids ++ end m ∷ []) (events_in more) es ∙ append_assoc (events_in kids) (end m ∷ []) (events_in more ++ es))

put_together : (n : ℕ) (q : Name) (xs : List Attribute) (kids more : PlacedItems) (m : ℕ) (es all inner after : List Event) → all ≡ start n q xs ∷ inner
    → inner ≡ events_in kids ++ end m ∷ after → after ≡ events_in more ++ es → all ≡ events_in (placed_and (element_at n q xs kids m) more) ++ es
put_together n q xs kids more m es all inner after d e f = rw (d, e, f) (sym (element_parts n q xs kids more m es))

-- the start of an element stays
record Started (n : ℕ) (q : Name) (xs : List Attribute) (es fs : List Event) : Type 0 where
  inner : List Event
  parts : fs ≡ start n q xs ∷ inner
  later : LeaveOutStrings false es inner

started : {b : Bool} (n : ℕ) (q : Name) (xs : List Attribute) (es fs : List Event) → LeaveOutStrings b (start n q xs ∷ es) fs → Started n q xs es fs
started n q xs es fs (stays {fs = gs} o) = record { inner = gs; parts = refl; later = o }

-- a string before these children is beside an element
beside : (b : Bool) (kids : PlacedItems) (m : ℕ) (behind : List Event) → BeginsBeside b (events_in kids ++ end m ∷ behind) → (c : Bool)
    → (b ≡ true → c ≡ true) → (has_element (list_of (items_of kids)) ≡ true → c ≡ true) → c ≡ true
beside b none_placed m behind i c h e = h i
beside b (placed_and (text_at n s) kids) m behind i c h e = absurd i
beside b (placed_and (element_at n q xs inner j) kids) m behind i c h e = e refl

left : {b : Bool} (kids : PlacedItems) (m : ℕ) (behind fs : List Event) → LeaveOutStrings b (events_in kids ++ end m ∷ behind) fs → Left b kids m behind fs
left none_placed m behind fs (stays {fs = gs} o) = record { rest = none_placed; after = gs; parts = refl; later = o; are = λ c h e. no_more }
left (placed_and (text_at n s) kids) m behind fs (stays {fs = gs} o) =
    let l = left kids m behind gs o in
    record {
      rest = placed_and (text_at n s) l.rest;
      after = l.after;
      parts = ap (λ gs. record { line = n; kind = a_string s } ∷ gs) l.parts;
      later = l.later;
      are = λ c h e. kept same_string (l.are c (λ f. absurd (cc)) e);
    }
left {b} (placed_and (text_at n s) kids) m behind fs (string_out p i o) =
    let l = left kids m behind fs o in
    record {
      rest = l.rest;
      after = l.after;
      parts = l.parts;
      later = l.later;
      are = λ c h e. leave_out c (beside b kids m behind i c h e) p (l.are c (λ f. absurd (cc)) e);
    }
left {b} (placed_and (element_at n q xs inner j) kids) m behind fs o =
    let all : LeaveOutStrings b (start n q xs ∷ (events_in inner ++ end j ∷ (events_in kids ++ end m ∷ behind))) fs =
    subst (λ es. LeaveOutStrings b es fs) (element_parts n q xs inner kids j (end m ∷ behind)) o in
    let s = started n q xs _ fs all in
    let inside = left inner j (events_in kids ++ end m ∷ behind) s.inner s.later in
    let others = left kids m behind inside.after inside.later in
    record {
      rest = placed_and (element_at n q xs inside.rest j) others.rest;
      after = others.after;
      parts = put_together n q xs inside.rest others.rest j (end m ∷ others.after) fs s.inner inside.after s.parts inside.parts others.parts;
      later = others.later;
      are = λ c h e. kept (same_tag (inside.are (has_element (list_of (items_of inner))) (λ f. absurd (cc)) (λ f. f)))
          (others.are c (λ f. e refl) (λ f. e refl));
    }

-- a document, and the document that is left of it
pub record LeftDocument (d : Placed) (fs : List Event) : Type 0 where
  pub rest : Placed
  pub events : events_of rest ≡ fs
  pub is_element : IsPlacedElement rest
  pub leaves_out : LeavesOutBlanks (item_of d) (item_of rest)

nothing_behind : {fs : List Event} → LeaveOutStrings true [] fs → fs ≡ []
nothing_behind no_events = refl

pub left_document : (d : Placed) → IsPlacedElement d → (fs : List Event) → LeaveOutStrings false (events_of d) fs → LeftDocument d fs
left_document (text_at n s) is fs o = absurd is
left_document (element_at n q xs kids m) is fs o =
    let s = started n q xs (events_in kids ++ end m ∷ []) fs o in
    let inside = left kids m [] s.inner s.later in
    record {
      rest = element_at n q xs inside.rest m;
      events = sym (s.parts ∙ ap (λ es. start n q xs ∷ es) (inside.parts ∙ ap (λ es. events_in inside.rest ++ end m ∷ es) (nothing_behind inside.later)));
      is_element = tt;
      leaves_out = same_tag (inside.are (has_element (list_of (items_of kids))) (λ f. absurd (cc)) (λ f. f));
    }

-- The tree whose walk is a list of events that opens and closes elements, and has no two strings in a row.
use Rattle.std.proofs.Common.{◌≡◌, ◌≢◌, ℕ, ◌∙◌, Bool, true, false, List, [], ◌∷◌, ◌++◌, refl, sym, ap, append_assoc}
use Rattle.std.specs.Prelude.{⊤, zero, suc}
use Rattle.rng_model.proofs.Truths.{no_truth}
use Rattle.rng_model.specs.names.Names.{Name}
use Rattle.rng_model.specs.matching.Document.{Attribute, Distinct, a_text, an_element, Item, Items, list_of}
use Rattle.rng_model.specs.documents.PyxTrees.{text_at, element_at, PlacedItems, none_placed, placed_and, items_of, Event, EventKind, a_start}
use Rattle.rng_model.specs.documents.PyxTrees.{a_string, an_end, events_of, events_in}
use Rattle.rng_model.specs.plain.WellFormed.{Separate, AreWellFormed, IsWellFormed}
use Rattle.rng_model.specs.plain.WellFormed as w
use Rattle.element_events.proofs.Walks.{at_line, ends_at}

-- Events lead from so many open elements to so many, inside the root. With each number goes whether the last event is a
-- string.
pub data Leads : ℕ → Bool → List Event → ℕ → Bool → Type 0 where
  stays : {d : ℕ} {b : Bool} → Leads d b [] d b
  at_start : {d : ℕ} {b : Bool} {es : List Event} {f : ℕ} {c : Bool} {e : Event} {q : Name} {xs : List Attribute} → e.kind ≡ a_start q xs → Distinct xs →
      Leads (suc (suc d)) false es f c → Leads (suc d) b (e ∷ es) f c
  at_string : {d : ℕ} {es : List Event} {f : ℕ} {c : Bool} {e : Event} {s : List ℕ} → e.kind ≡ a_string s → s ≢ [] →
      Leads (suc d) true es f c → Leads (suc d) false (e ∷ es) f c
  at_end : {d : ℕ} {b : Bool} {es : List Event} {f : ℕ} {c : Bool} {e : Event} → e.kind ≡ an_end → Leads d false es f c → Leads (suc d) b (e ∷ es) f c

pub lead_on : {d e f : ℕ} {a b c : Bool} {es fs : List Event} → Leads d a es e b → Leads e b fs f c → Leads d a (es ++ fs) f c
lead_on stays k = k
lead_on (at_start i x l) k = at_start i x (lead_on l k)
lead_on (at_string i x l) k = at_string i x (lead_on l k)
lead_on (at_end i l) k = at_end i (lead_on l k)

pub leads_ends : {d e : ℕ} {a b : Bool} {es : List Event} → Leads d a es e b → (fs : List Event) → ends_at d (es ++ fs) ≡ ends_at e fs
unfolding ends_at
leads_ends stays fs = refl
leads_ends (at_start i x l) fs = rw i (leads_ends l fs)
leads_ends (at_string i x l) fs = rw i (leads_ends l fs)
leads_ends (at_end i l) fs = rw i (leads_ends l fs)

-- ---- the content of each open element

abbrev pub BeginsOtherwise : PlacedItems → Type 0
BeginsOtherwise none_placed = ⊤
BeginsOtherwise (placed_and (text_at n s) ts) = ⊥
BeginsOtherwise (placed_and (element_at n q xs kids m) ts) = ⊤

pub record AreFormed (kids : PlacedItems) : Type 0 where
  pub formed : AreWellFormed (items_of kids)
  pub apart : Separate (list_of (items_of kids))

-- the events are the rest of the content of each open element, and their ends
pub data Closes : ℕ → Bool → List Event → Type 0 where
  none_open : {b : Bool} → Closes zero b []
  content : {d : ℕ} {b : Bool} {es all : List Event} (kids : PlacedItems) (m : ℕ) → AreFormed kids → (b ≡ true → BeginsOtherwise kids) → Closes d false es →
      all ≡ events_in kids ++ at_line m an_end ∷ es → Closes (suc d) b all

element_apart : {q : Name} {xs : List Attribute} {kids : Items} {ns : List Item} → Separate (an_element q xs kids ∷ ns) → Separate ns
element_apart (w.element s) = s

text_before : (s : List ℕ) (kids : PlacedItems) → BeginsOtherwise kids → Separate (list_of (items_of kids)) → Separate (a_text s ∷ list_of (items_of kids))
text_before s none_placed o a = w.string
text_before s (placed_and (text_at n t) ts) o a = absurd o
text_before s (placed_and (element_at n q xs kids m) ts) o a = w.string_element (element_apart a)

event_is : (e : Event) (k : EventKind) → e.kind ≡ k → e ≡ at_line e.line k
event_is e k i = ap (λ (x : EventKind). at_line e.line x) i

close_end : {d : ℕ} {b : Bool} {es : List Event} (e : Event) → e.kind ≡ an_end → Closes d false es → Closes (suc d) b (e ∷ es)
close_end {es = es} e i c =
    content none_placed e.line (record { formed = tt; apart = w.nothing }) (λ _. tt) c (ap (λ (x : Event). x ∷ es) (event_is e an_end i))

close_string : {d : ℕ} {es : List Event} (e : Event) (s : List ℕ) → e.kind ≡ a_string s → s ≢ [] → Closes (suc d) true es → Closes (suc d) false (e ∷ es)
close_string e s i some (content {es = es} {all = all} kids m f o c p) =
    content (placed_and (text_at e.line s) kids) m (record { formed = (some, f.formed); apart = text_before s kids (o refl) f.apart })
    (λ e. no_truth e) c (joined (event_is e (a_string s) i) p) where
      joined : e ≡ at_line e.line (a_string s) → all ≡ events_in kids ++ at_line m an_end ∷ es →
          e ∷ all ≡ at_line e.line (a_string s) ∷ (events_in kids ++ at_line m an_end ∷ es)
      joined i p = cc

start_walk : (e : Event) (q : Name) (xs : List Attribute) (kids rest : PlacedItems) (l m : ℕ) (es fs all : List Event) → e.kind ≡ a_start q xs →
    all ≡ events_in kids ++ at_line l an_end ∷ es → es ≡ events_in rest ++ at_line m an_end ∷ fs →
    e ∷ all ≡ (events_of (element_at e.line q xs kids l) ++ events_in rest) ++ at_line m an_end ∷ fs
start_walk e q xs kids rest l m es fs all i p r =
    let parts = append_assoc (events_in kids) (at_line l an_end ∷ []) (events_in rest ++ at_line m an_end ∷ fs) in
    let whole = append_assoc (events_of (element_at e.line q xs kids l)) (events_in rest) (at_line m an_end ∷ fs) in
    let tail : all ≡ (events_in kids ++ at_line l an_end ∷ []) ++ (events_in rest ++ at_line m an_end ∷ fs) =
    p ∙ ap (λ (x : List Event). events_in kids ++ at_line l an_end ∷ x) r ∙ sym parts in
    ap (λ (x : Event). x ∷ all) (event_is e (a_start q xs) i) ∙ ap (λ (x : List Event). at_line e.line (a_start q xs) ∷ x) tail ∙ sym whole

close_start : {d : ℕ} {b : Bool} {es : List Event} (e : Event) (q : Name) (xs : List Attribute) → e.kind ≡ a_start q xs → Distinct xs →
    Closes (suc (suc d)) false es → Closes (suc d) b (e ∷ es)
close_start e q xs i x (content kids l f o (content rest m g h c r) p) =
    content (placed_and (element_at e.line q xs kids l) rest) m
    (record { formed = ((x, f.apart, f.formed), g.formed); apart = w.element g.apart }) (λ _. tt) c (start_walk e q xs kids rest l m _ _ _ i p r)

pub closes : {d : ℕ} {a b : Bool} {es : List Event} → Leads d a es zero b → Closes d a es
closes stays = none_open
closes (at_start {e = e} {q = q} {xs = xs} i x l) = close_start e q xs i x (closes l)
closes (at_string {e = e} {s = s} i x l) = close_string e s i x (closes l)
closes (at_end {e = e} i l) = close_end e i (closes l)

-- ---- the root

pub record IsRootOf (e : Event) (es : List Event) : Type 0 where
  pub name : Name
  pub attributes : List Attribute
  pub kids : PlacedItems
  pub last : ℕ
  pub formed : IsWellFormed (an_element name attributes (items_of kids))
  pub walk : events_of (element_at e.line name attributes kids last) ≡ e ∷ es

root_closed : (e : Event) (q : Name) (xs : List Attribute) (es : List Event) → e.kind ≡ a_start q xs → Distinct xs → Closes 1 false es → IsRootOf e es
root_closed e q xs es i x (content kids m f o none_open p) = record {
  name = q;
  attributes = xs;
  kids = kids;
  last = m;
  formed = (x, f.apart, f.formed);
  walk = joined (event_is e (a_start q xs) i) p;
} where
  joined : e ≡ at_line e.line (a_start q xs) → es ≡ events_in kids ++ at_line m an_end ∷ [] →
      at_line e.line (a_start q xs) ∷ (events_in kids ++ at_line m an_end ∷ []) ≡ e ∷ es
  joined i p = cc

-- the start of a root, and events that lead to its end
pub root_of : (e : Event) (q : Name) (xs : List Attribute) (es : List Event) (b : Bool) → e.kind ≡ a_start q xs → Distinct xs →
    Leads 1 false es 0 b → IsRootOf e es
root_of e q xs es b i x l = root_closed e q xs es i x (closes l)

-- How many elements are open after the first events of a document.
use Rattle.std.proofs.Common.{◌≡◌, ◌≢◌, ℕ, zero, suc, List, [], ◌∷◌, ◌++◌, refl, sym, ap, ◌∙◌, append_assoc, Option, Some, None}
use Rattle.std.proofs.lemmas.List.{append-nil}
use Rattle.rng_model.specs.names.Names.{Name}
use Rattle.rng_model.specs.matching.Document.{Attribute, a_text, an_element, Items, no_items, item_and}
use Rattle.rng_model.specs.documents.ElementTrees.{IsElementTree}
use Rattle.rng_model.specs.documents.PyxTrees.{EventKind, a_start, a_string, an_end, Placed, text_at, element_at, item_of, items_of, events_of}
use Rattle.rng_deriv_laws.specs.plain.Events.{kinds, events_of_items, open_after}
use Rattle.rng_deriv_laws.proofs.Events.{kinds_of_document}

-- this many elements are open between two parts of the events
pub record Between (n : ℕ) (es fs : List EventKind) (m : ℕ) : Type 0 where
  pub count : ℕ
  pub before : open_after n es ≡ Some count
  pub behind : open_after count fs ≡ Some m

pub count_between : (n : ℕ) (es fs : List EventKind) (m : ℕ) → open_after n (es ++ fs) ≡ Some m → Between n es fs m
count_between n [] fs m e = record { count = n; before = refl; behind = e }
count_between n (a_start q xs ∷ es) fs m e = let b = count_between (suc n) es fs m e in record { count = b.count; before = b.before; behind = b.behind }
count_between n (a_string s ∷ es) fs m e = let b = count_between n es fs m e in record { count = b.count; before = b.before; behind = b.behind }
count_between zero (an_end ∷ es) fs m e = absurd (cc)
count_between (suc n) (an_end ∷ es) fs m e = let b = count_between n es fs m e in record { count = b.count; before = b.before; behind = b.behind }

pub open_then : (n m : ℕ) (es fs : List EventKind) → open_after n es ≡ Some m → open_after n (es ++ fs) ≡ open_after m fs
open_then n m [] fs e = ap (λ o. open_in o fs) e where
  open_in : Option ℕ → List EventKind → Option ℕ
  open_in None fs = None
  open_in (Some n) fs = open_after n fs
open_then n m (a_start q xs ∷ es) fs e = open_then (suc n) m es fs e
open_then n m (a_string s ∷ es) fs e = open_then n m es fs e
open_then zero m (an_end ∷ es) fs e = absurd (cc)
open_then (suc n) m (an_end ∷ es) fs e = open_then n m es fs e

one_more_open : (n m : ℕ) (es : List EventKind) → open_after n es ≡ Some m → open_after (suc n) es ≡ Some (suc m)
one_more_open n m [] e = ap (λ o. one_more o) e where
  one_more : Option ℕ → Option ℕ
  one_more None = None
  one_more (Some n) = Some (suc n)
one_more_open n m (a_start q xs ∷ es) e = one_more_open (suc n) m es e
one_more_open n m (a_string s ∷ es) e = one_more_open n m es e
one_more_open zero m (an_end ∷ es) e = absurd (cc)
one_more_open (suc n) m (an_end ∷ es) e = one_more_open n m es e

-- children end what they open
items_close : (ns : Items) (n : ℕ) (es : List EventKind) → open_after n (events_of_items ns ++ es) ≡ open_after n es
items_close no_items n es = refl
items_close (item_and (a_text s) ns) n es = items_close ns n es
items_close (item_and (an_element q xs kids) ns) n es =
    ap (open_after (suc n)) (append_assoc (events_of_items kids) (an_end ∷ events_of_items ns) es)
    ∙ items_close kids (suc n) (an_end ∷ (events_of_items ns ++ es))
    ∙ items_close ns n es

alone_close : (ns : Items) → open_after 0 (events_of_items ns) ≡ Some 0
alone_close ns = ap (open_after 0) (sym (append-nil (events_of_items ns))) ∙ items_close ns 0 []

-- after the events of a document no element is open
pub document_closes : (d : Placed) → IsElementTree d → open_after 0 (kinds (events_of d)) ≡ Some 0
document_closes d is = ap (open_after 0) (kinds_of_document d) ∙ alone_close (item_and (item_of d) no_items)

-- an element ends only if one is open
pub ends_open : (d : Placed) → IsElementTree d → (es fs : List EventKind) → kinds (events_of d) ≡ es ++ fs
    → (n : ℕ) × (open_after 0 es ≡ Some n)
ends_open d is es fs e =
    let b = count_between 0 es fs 0 (ap (open_after 0) (sym e) ∙ document_closes d is) in (b.count, b.before)

-- if another event follows, either no event has come or an element is open

front_of : {A : Type 0} (xs ys zs : List A) (y z : A) → xs ++ y ∷ ys ≡ zs ++ z ∷ [] → (more : List A) × (zs ≡ xs ++ more)
front_of [] ys zs y z e = (zs, refl)
front_of (x ∷ xs) ys [] y z e = absurd (nothing_behind xs ys y (tail_is e)) where
  tail_is : x ∷ (xs ++ y ∷ ys) ≡ z ∷ [] → xs ++ y ∷ ys ≡ []
  tail_is e = cc

  nothing_behind : {A : Type 0} (xs ys : List A) (y : A) → xs ++ y ∷ ys ≡ [] → ⊥
  nothing_behind [] ys y e = cc
  nothing_behind (x ∷ xs) ys y e = cc
front_of (x ∷ xs) ys (w ∷ zs) y z e =
    let f = front_of xs ys zs y z (cc) in let first : x ≡ w = cc in let is = f.1 in (f.0, rw first (ap (λ l. w ∷ l) is))

root_open : (q : Name) (xs : List Attribute) (kids : Items) (es fs : List EventKind) (f : EventKind) →
    events_of_items (item_and (an_element q xs kids) no_items) ≡ es ++ f ∷ fs → es ≢ [] → (n : ℕ) × (open_after 0 es ≡ Some (suc n))
root_open q xs kids [] fs f e some = absurd (some refl)
root_open q xs kids (a_start q' xs' ∷ es) fs f e some =
    let inner : es ++ f ∷ fs ≡ events_of_items kids ++ an_end ∷ [] = cc in
    let front = front_of es fs (events_of_items kids) f an_end inner in
    let b = count_between 0 es front.0 0 (ap (open_after 0) (sym front.1) ∙ alone_close kids) in
    (b.count, one_more_open 0 b.count es b.before)
root_open q xs kids (a_string s ∷ es) fs f e some = absurd (cc)
root_open q xs kids (an_end ∷ es) fs f e some = absurd (cc)

pub inside_root : (d : Placed) → IsElementTree d → (es fs : List EventKind) (f : EventKind) → kinds (events_of d) ≡ es ++ f ∷ fs
    → es ≢ [] → (n : ℕ) × (open_after 0 es ≡ Some (suc n))
inside_root d t es fs f e some =
    root_open t.name t.attributes (items_of t.kids) es fs f
    (ap (λ i. events_of_items (item_and i no_items)) (ap item_of (sym t.is)) ∙ sym (kinds_of_document d) ∙ e) some

-- no document is a proper beginning of another
pub nothing_behind_document : (d d' : Placed) → IsElementTree d → IsElementTree d' → (fs : List EventKind)
    → kinds (events_of d') ≡ kinds (events_of d) ++ fs → fs ≡ []
nothing_behind_document d d' is is' [] e = refl
nothing_behind_document d d' is is' (f ∷ fs) e =
    let k = inside_root d' is' (kinds (events_of d)) fs f e (some_event d) in
    let more = k.1 in
    let none = document_closes d is in
    absurd (cc) where
      some_event : (d : Placed) → kinds (events_of d) ≢ []
      some_event (text_at n s) e = cc
      some_event (element_at n q xs kids m) e = cc

-- Where a document becomes invalid: at the latest at a start whose name is in the class of no element, and at the
-- latest at its last event.
use Rattle.std.proofs.Common.{◌≡◌, ℕ, zero, suc, List, [], ◌∷◌, ◌++◌, refl, ap, ◌∙◌, Bool, true, false, cond}
use Rattle.std.proofs.lemmas.Bool.{and_from, or_left}
use Rattle.rng_model.specs.names.Names.{Name}
use Rattle.rng_model.specs.simple.Tree.{Simple, choice, group, interleave, s_not_allowed, s_empty, s_text, s_leaf, s_attribute, s_list, s_data, s_data_except}
use Rattle.rng_model.specs.simple.Tree.{s_value, s_one_or_more, s_joined}
use Rattle.rng_model.specs.matching.Document.{Attribute, a_text, an_element, Items, no_items, item_and, list_of}
use Rattle.rng_model.specs.datatypes.Texts.{is_blank}
use Rattle.rng_model.specs.documents.PyxTrees.{a_start}
use Rattle.rng_model.specs.matching.GrammarMatching.{Reading}
use Rattle.rng_deriv_laws.specs.plain.Reading.{body_of, has_name}
use Rattle.rng_deriv_laws.specs.plain.Restricted.{MayStart}
use Rattle.rng_deriv_laws.specs.plain.Blanks.{has_element, string_of}
use Rattle.rng_deriv_laws.specs.plain.Derivatives.{Way, is_nullable, is_not_allowed, closed, after_text, has_text, after_attributes, after_start, item_ways}
use Rattle.rng_deriv_laws.specs.plain.Derivatives.{started, bodies_of}
use Rattle.rng_deriv_laws.specs.plain.Ways.{EachWay}
use Rattle.rng_deriv_laws.specs.plain.States.{State, never, finished, after, either, is_never, is_ended, accepts, after_of, either_of, enter, start_tag, string}
use Rattle.rng_deriv_laws.specs.plain.States.{end_tag, end_text, after_items, after_item}
use Rattle.rng_deriv_laws.specs.plain.Events.{Matcher, settled, step}
use Rattle.rng_deriv_laws.proofs.Starts.{bodies_keep}

-- ---- a name in the class of no element

module _ (g : Reading) (q : Name) (none : (k : ℕ) → has_name g k q ≡ false) where
  unnamed : (b : Bool) (w : Way) → b ≡ false → cond b (w ∷ []) [] ≡ []
  unnamed b w e = rw e refl

  none_started : (l r : Simple ℕ) → started g l r q [] ≡ []
  none_started s_not_allowed r = refl
  none_started s_empty r = refl
  none_started s_text r = refl
  none_started (s_leaf k) r = unnamed (has_name g k q) (record { leaf = body_of g k; rest = r }) (none k)
  none_started (s_attribute c p) r = refl
  none_started (s_list p) r = refl
  none_started (s_data d) r = refl
  none_started (s_data_except d p) r = refl
  none_started (s_value d v) r = refl
  none_started (s_one_or_more p) r = refl
  none_started (s_joined k p p') r = refl

  no_bodies : (ws : List Way) → bodies_of g q ws ≡ []
  no_bodies [] = refl
  no_bodies (w ∷ ws) = ap (λ vs. started g w.leaf w.rest q vs) (no_bodies ws) ∙ none_started w.leaf w.rest

  no_start : (r : State) (xs : List Attribute) → start_tag g r q xs ≡ never
  no_start never xs = refl
  no_start finished xs = refl
  no_start (after p r) xs = ap (λ ws. enter g xs ws r) (no_bodies (item_ways p))
  no_start (either r s) xs = ap (λ t. either_of t (start_tag g s q xs)) (no_start r xs) ∙ no_start s xs

  pub unknown_is_never : (m : Matcher) (xs : List Attribute) → is_never (step g m (a_start q xs)).state ≡ true
  unknown_is_never m xs = ap is_never (no_start (settled g m) xs)

-- ---- the end of a document

-- There are this many levels around the innermost one, and the outermost one needs nothing after the root.
abbrev IsRooted : State → ℕ → Type 0
IsRooted never n = Unit {0}
IsRooted finished n = ⊥
IsRooted (after p r) zero = (p ≡ s_empty) × (r ≡ finished)
IsRooted (after p r) (suc n) = IsRooted r n
IsRooted (either r s) n = IsRooted r n × IsRooted s n × (is_never r ≡ false) × (is_never s ≡ false)

either_by : (n : ℕ) (r s : State) (b c : Bool) → is_never r ≡ b → is_never s ≡ c → IsRooted r n → IsRooted s n → IsRooted (cond b s (cond c r (either r s))) n
either_by n r s true c d e h k = k
either_by n r s false true d e h k = h
either_by n r s false false d e h k = (h, k, d, e)

either_rooted : (n : ℕ) (r s : State) → IsRooted r n → IsRooted s n → IsRooted (either_of r s) n
either_rooted n r s h k = either_by n r s (is_never r) (is_never s) refl refl h k

one_rooted : (n : ℕ) (b : Bool) (r s : State) → IsRooted r n → IsRooted s n → IsRooted (cond b r s) n
one_rooted n true r s h k = h
one_rooted n false r s h k = k

after_rooted : (n : ℕ) (p : Simple ℕ) (r : State) → IsRooted (after p r) n → IsRooted (after_of p r) n
after_rooted n p r h = one_rooted n (is_not_allowed p) never _ tt (one_rooted n (is_never r) never (after p r) tt h)

module _ (g : Reading) where
  string_rooted : (n : ℕ) (r : State) (s : List ℕ) → IsRooted r (suc n) → IsRooted (string g r s) (suc n)
  string_rooted n never s h = tt
  string_rooted n finished s h = absurd h
  string_rooted n (after p r) s h = after_rooted (suc n) (after_text g p s) r h
  string_rooted n (either r u) s h = either_rooted (suc n) (string g r s) (string g u s) (string_rooted n r s h.0) (string_rooted n u s h.1)

  enter_rooted : (n : ℕ) (xs : List Attribute) (ws : List Way) (r : State) → IsRooted r n → IsRooted (enter g xs ws r) (suc (suc n))
  enter_rooted n xs [] r h = tt
  enter_rooted n xs (w ∷ ws) r h =
      either_rooted (suc (suc n)) _ (enter g xs ws r)
      (after_rooted (suc (suc n)) (closed (after_attributes g w.leaf xs)) (after_of w.rest r) (after_rooted (suc n) w.rest r h)) (enter_rooted n xs ws r h)

  start_rooted : (n : ℕ) (r : State) (q : Name) (xs : List Attribute) → IsRooted r (suc n) → IsRooted (start_tag g r q xs) (suc (suc n))
  start_rooted n never q xs h = tt
  start_rooted n finished q xs h = absurd h
  start_rooted n (after p r) q xs h = enter_rooted n xs (after_start g p q) r h
  start_rooted n (either r s) q xs h =
      either_rooted (suc (suc n)) (start_tag g r q xs) (start_tag g s q xs) (start_rooted n r q xs h.0) (start_rooted n s q xs h.1)

  end_rooted : (n : ℕ) (r : State) → IsRooted r (suc n) → IsRooted (end_tag r) n
  end_rooted n never h = tt
  end_rooted n finished h = absurd h
  end_rooted n (after p r) h = one_rooted n (is_nullable p) r never h tt
  end_rooted n (either r s) h = either_rooted n (end_tag r) (end_tag s) (end_rooted n r h.0) (end_rooted n s h.1)

  end_text_rooted : (n : ℕ) (r : State) (s : List ℕ) → IsRooted r (suc n) → IsRooted (end_text g r s) n
  end_text_rooted n never s h = tt
  end_text_rooted n finished s h = absurd h
  end_text_rooted n (after p r) s h = one_rooted n (has_text g p s) r never h tt
  end_text_rooted n (either r u) s h = either_rooted n (end_text g r s) (end_text g u s) (end_text_rooted n r s h.0) (end_text_rooted n u s h.1)

  items_rooted : (ns : Items) (n : ℕ) (r : State) → IsRooted r (suc n) → IsRooted (after_items g ns r) (suc n)
  items_rooted no_items n r h = h
  items_rooted (item_and (a_text s) ns) n r h = items_rooted ns n _ (one_rooted (suc n) (is_blank s) r (string g r s) h (string_rooted n r s h))
  items_rooted (item_and (an_element q xs kids) ns) n r h =
      let k = start_rooted n r q xs h in
      items_rooted ns n _
      (one_rooted (suc n) (has_element (list_of kids)) _ _ (end_rooted (suc n) _ (items_rooted kids (suc n) (start_tag g r q xs) k))
      (end_text_rooted (suc n) (start_tag g r q xs) (string_of (list_of kids)) k))

  -- nothing is needed after the root, since a start is a choice of elements (section 7.1.5)
  appended : (ws vs : List Way) → EachWay (λ l. Unit {0}) (λ r. r ≡ s_empty) ws → EachWay (λ l. Unit {0}) (λ r. r ≡ s_empty) vs
      → EachWay (λ l. Unit {0}) (λ r. r ≡ s_empty) (ws ++ vs)
  appended [] vs h k = k
  appended (w ∷ ws) vs h k = (h.0, appended ws vs h.1 k)

  nothing_behind : (p : Simple ℕ) → MayStart p → EachWay (λ l. Unit {0}) (λ r. r ≡ s_empty) (item_ways p)
  nothing_behind s_not_allowed o = tt
  nothing_behind s_empty o = absurd o
  nothing_behind s_text o = absurd o
  nothing_behind (s_leaf k) o = ((tt, refl), tt)
  nothing_behind (s_attribute c p) o = absurd o
  nothing_behind (s_list p) o = absurd o
  nothing_behind (s_data d) o = absurd o
  nothing_behind (s_data_except d p) o = absurd o
  nothing_behind (s_value d v) o = absurd o
  nothing_behind (s_one_or_more p) o = absurd o
  nothing_behind (s_joined choice p q) o = appended (item_ways p) (item_ways q) (nothing_behind p o.0) (nothing_behind q o.1)
  nothing_behind (s_joined group p q) o = absurd o
  nothing_behind (s_joined interleave p q) o = absurd o

  root_entered : (xs : List Attribute) (ws : List Way) → EachWay (λ l. Unit {0}) (λ r. r ≡ s_empty) ws → IsRooted (enter g xs ws finished) 1
  root_entered xs [] h = tt
  root_entered xs (w ∷ ws) h =
      either_rooted 1 _ (enter g xs ws finished)
      (after_rooted 1 (closed (after_attributes g w.leaf xs)) (after_of w.rest finished) (after_rooted 0 w.rest finished (h.0.1, refl)))
      (root_entered xs ws h.1)

  root_started : (p : Simple ℕ) → MayStart p → (q : Name) (xs : List Attribute) (b : Bool) → IsRooted (start_tag g (cond b never (after p finished)) q xs) 1
  root_started p o q xs true = tt
  root_started p o q xs false =
      root_entered xs (after_start g p q)
      (bodies_keep g q (λ l. Unit {0}) (λ r. r ≡ s_empty) (λ k e. tt) (λ l. Unit {0}) (item_ways p) (nothing_behind p o))

  root_rooted : (p : Simple ℕ) → MayStart p → (q : Name) (xs : List Attribute) (kids : Items)
      → IsRooted (after_item g (an_element q xs kids) (after_of p finished)) 0
  root_rooted p o q xs kids =
      let h = root_started p o q xs (is_not_allowed p) in
      one_rooted 0 (has_element (list_of kids)) _ _ (end_rooted 0 _ (items_rooted kids 0 (start_tag g (after_of p finished) q xs) h))
      (end_text_rooted 0 (start_tag g (after_of p finished) q xs) (string_of (list_of kids)) h)

  rooted_accepts : (r : State) → IsRooted r 0 → is_never r ≡ false → accepts r ≡ true
  rooted_accepts never h e = absurd (cc)
  rooted_accepts finished h e = absurd h
  rooted_accepts (after p r) h e = and_from _ _ (ap is_nullable h.0) (ap is_ended h.1)
  rooted_accepts (either r s) h e = or_left _ _ (rooted_accepts r h.0 h.2)

  -- after the root the state accepts, or it is `never`
  pub root_accepts : (p : Simple ℕ) → MayStart p → (q : Name) (xs : List Attribute) (kids : Items) →
      is_never (after_item g (an_element q xs kids) (after_of p finished)) ≡ false → accepts (after_item g (an_element q xs kids) (after_of p finished)) ≡ true
  root_accepts p o q xs kids e = rooted_accepts _ (root_rooted p o q xs kids) e

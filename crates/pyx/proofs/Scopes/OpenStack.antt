-- The open elements as a stack, each with its part of the declarations.
use Rattle.std.proofs.Common.{◌≡◌, ◌∙◌, ◌≤◌, ◌<◌, ◌-◌, ℕ, List, [], ◌∷◌, ◌++◌, map, reverse, ap, sym, length, take, drop, refl, arith}
use Rattle.std.proofs.Common.{◌⊎◌, inl, inr}
use Rattle.std.proofs.lemmas.Bool.{cases_lt}
use Rattle.std.proofs.lemmas.List.{append_cancel_left, append-nil, drop_all, drop_at, length-append, length-map, length-reverse, map-append, nil_from_length}
use Rattle.std.proofs.lemmas.List.{reverse-append, take-append-drop, take_all, take_at}
use Rattle.rng_model.specs.documents.PyxHeld.{name_length}
use Rattle.rng_model.specs.documents.PyxNamespaces.{WrittenAttribute}
use Rattle.pyx.specs.plain.DocumentReader.{around}
use Rattle.pyx.specs.declared.elements.OpenElement.{OpenElement}
use Rattle.pyx.specs.declared.namespaces.places.Declaration.{Declaration}
use Rattle.pyx.specs.views.DeclarationView.{declaration_of}
use Rattle.pyx.specs.plain.WrittenNames.{written_of}
use Rattle.pyx.specs.declared.namespaces.written.WrittenAttribute as written
use Rattle.pyx.specs.views.WrittenAttributes.{written_attribute}
use Rattle.pyx.specs.views.ElementView.{all_declared, open_as, open_with, stack_in, stack_of}
use Rattle.pyx.specs.plain.Held.{declarations_held, plus}
use Rattle.pyx.specs.views.Held.{opened_held}

pub stack_push : (xs : List OpenElement) (e : OpenElement) (names : List ℕ) (ds : List WrittenAttribute)
    → stack_of (xs ++ e ∷ []) names ds ≡ open_with (drop e.start names) (take e.count ds) ∷ stack_of xs (take e.start names) (drop e.count ds)
stack_push xs e names ds = ap (λ (r : List OpenElement). stack_in r names ds) (reverse-append xs (e ∷ []))

in_length : (xs : List OpenElement) (names : List ℕ) (ds : List WrittenAttribute) → length (stack_in xs names ds) ≡ length xs
in_length [] names ds = refl
in_length (e ∷ xs) names ds = omega (arith, in_length xs (take e.start names) (drop e.count ds))

pub stack_length : (xs : List OpenElement) (names : List ℕ) (ds : List WrittenAttribute) → length (stack_of xs names ds) ≡ length xs
stack_length xs names ds = in_length (reverse xs) names ds ∙ length-reverse xs

-- ---- an element is opened

-- with declarations of its own
pub stack_open : (xs : List OpenElement) (e : OpenElement) (names : List ℕ) (es ds : List WrittenAttribute) → length es ≡ e.count
    → stack_of (xs ++ e ∷ []) names (es ++ ds) ≡ open_with (drop e.start names) es ∷ stack_of xs (take e.start names) ds
stack_open xs e names es ds n = stack_push xs e names (es ++ ds)
    ∙ ap (λ (t : List WrittenAttribute). open_with (drop e.start names) t ∷ stack_of xs (take e.start names) (drop e.count (es ++ ds)))
    (take_at es ds e.count n)
    ∙ ap (λ (t : List WrittenAttribute). open_with (drop e.start names) es ∷ stack_of xs (take e.start names) t) (drop_at es ds e.count n)

-- the place behind all names
pub take_end : (n : ℕ) (names : List ℕ) → n ≡ length names → take n names ≡ names
take_end n names e = take_all n names (omega (arith, e))

-- in the form of the code: the names end with that of its tag, and it has the declarations of its tag
module _ (xs : List OpenElement) (e : OpenElement) (tag : List written.WrittenAttribute) (names : List ℕ) (n : ℕ) (ds new : List WrittenAttribute)
    (own : length tag ≡ e.count) (end : n ≡ length names) (is : new ≡ map written_attribute tag ++ ds) where
  pub opened_is : stack_of (xs ++ e ∷ []) (take n names) new ≡ open_as (drop e.start names) tag ∷ stack_of xs (take e.start names) ds
  opened_is = ap (λ (t : List ℕ). stack_of (xs ++ e ∷ []) t new) (take_end n names end) ∙ ap (stack_of (xs ++ e ∷ []) names) is
      ∙ stack_open xs e names (map written_attribute tag) ds (length-map tag written_attribute ∙ own)

  pub opened_whole : all_declared (stack_of xs (take e.start names) ds) ≡ ds → all_declared (stack_of (xs ++ e ∷ []) (take n names) new) ≡ new
  opened_whole whole = ap all_declared opened_is ∙ ap (λ (t : List WrittenAttribute). map written_attribute tag ++ t) whole ∙ sym is

-- all declarations were removed
none_in : (xs : List OpenElement) (names : List ℕ) → all_declared (stack_in xs names []) ≡ []
none_in [] names = refl
none_in (e ∷ xs) names =
    let no : List WrittenAttribute = [] in
    let own : take e.count no ≡ no = take_all e.count no (omega arith) in
    let outer : drop e.count no ≡ no = drop_all e.count no (omega arith) in
    ap (λ (t : List WrittenAttribute). t ++ all_declared (stack_in xs (take e.start names) (drop e.count no))) own
    ∙ ap (λ (t : List WrittenAttribute). all_declared (stack_in xs (take e.start names) t)) outer ∙ none_in xs (take e.start names)

pub whole_none : (xs : List OpenElement) (names : List ℕ) (ds : List WrittenAttribute) → ds ≡ [] → all_declared (stack_of xs names ds) ≡ ds
whole_none xs names ds e = rw e (none_in (reverse xs) names)

-- ---- an element is closed

pub stack_close : (xs ys : List OpenElement) (e : OpenElement) (names : List ℕ) (ds : List WrittenAttribute) → xs ≡ ys ++ e ∷ []
    → stack_of ys (take e.start names) (drop e.count ds) ≡ around (stack_of xs names ds)
stack_close xs ys e names ds parts =
    sym (ap (λ (x : List OpenElement). around (stack_of x names ds)) parts ∙ ap around (stack_push ys e names ds))

pub whole_close : (xs ys : List OpenElement) (e : OpenElement) (names : List ℕ) (ds : List WrittenAttribute) → xs ≡ ys ++ e ∷ []
    → all_declared (stack_of xs names ds) ≡ ds → all_declared (stack_of ys (take e.start names) (drop e.count ds)) ≡ drop e.count ds
whole_close xs ys e names ds parts whole =
    let own : List WrittenAttribute = take e.count ds in
    append_cancel_left own (all_declared (stack_of ys (take e.start names) (drop e.count ds))) (drop e.count ds)
    (sym (ap (λ (x : List OpenElement). all_declared (stack_of x names ds)) parts ∙ ap all_declared (stack_push ys e names ds)) ∙ whole
    ∙ sym (take-append-drop e.count ds))

-- ---- the declarations in a list of which the innermost is last

parted : (inner rest ds : List WrittenAttribute) (n : ℕ) → ds ≡ inner ++ rest → length rest ≡ length ds - n → (take n ds ≡ inner) × (drop n ds ≡ rest)
parted inner rest ds n both size = go (cases_lt (length ds) n) where
  go : (length ds < n) ⊎ (n ≤ length ds) → (take n ds ≡ inner) × (drop n ds ≡ rest)
  go (inr few) =
      let own : length inner ≡ n = omega (arith, size, few, ap length both, length-append inner rest) in
      (ap (take n) both ∙ take_at inner rest n own, ap (drop n) both ∙ drop_at inner rest n own)
  go (inl many) =
      let none : rest ≡ [] = nil_from_length rest (omega (arith, size, many)) in
      let just : ds ≡ inner = both ∙ ap (λ (t : List WrittenAttribute). inner ++ t) none ∙ append-nil inner in
      let short : length inner ≤ n = omega (arith, ap length just, many) in
      (ap (take n) just ∙ take_all n inner short, ap (drop n) just ∙ drop_all n inner short ∙ sym none)

-- of all declarations, those of the innermost element are the last
pub last_of : (all outer own : List Declaration) (n : ℕ) → all ≡ outer ++ own → length outer ≡ length all - n
    → (take n (map declaration_of (reverse all)) ≡ map declaration_of (reverse own))
    × (drop n (map declaration_of (reverse all)) ≡ map declaration_of (reverse outer))
last_of all outer own n parts size =
    let both : map declaration_of (reverse all) ≡ map declaration_of (reverse own) ++ map declaration_of (reverse outer) =
    ap (λ (x : List Declaration). map declaration_of (reverse x)) parts ∙ ap (map declaration_of) (reverse-append outer own)
    ∙ map-append declaration_of (reverse own) (reverse outer) in
    parted (map declaration_of (reverse own)) (map declaration_of (reverse outer)) (map declaration_of (reverse all)) n both
    (omega (
      arith,
      size,
      length-map (reverse outer) declaration_of,
      length-reverse outer,
      length-map (reverse all) declaration_of,
      length-reverse all,
    ))

-- the bytes of the innermost element, and of those around it
pub held_open : (opened outer : List OpenElement) (e : OpenElement) (names : List ℕ) (all around own : List Declaration) → opened ≡ outer ++ e ∷ []
    → all ≡ around ++ own → length around ≡ length all - e.count
    → opened_held (stack_of opened names (map declaration_of (reverse all)))
    ≡ plus (plus (name_length (written_of (drop e.start names))) (declarations_held (map declaration_of (reverse own))))
    (opened_held (stack_of outer (take e.start names) (map declaration_of (reverse around))))
unfolding opened_held
held_open opened outer e names all around own parts cut size =
    let p = last_of all around own e.count cut size in
    let ds : List WrittenAttribute = map declaration_of (reverse all) in
    let name : ℕ = name_length (written_of (drop e.start names)) in
    let before : List ℕ = take e.start names in
    ap (λ (x : List OpenElement). opened_held (stack_of x names ds)) parts ∙ ap opened_held (stack_push outer e names ds)
    ∙ ap (λ (t : List WrittenAttribute). plus (plus name (declarations_held t)) (opened_held (stack_of outer before (drop e.count ds)))) p.0
    ∙ ap (λ (t : List WrittenAttribute). plus (plus name (declarations_held (map declaration_of (reverse own)))) (opened_held (stack_of outer before t))) p.1

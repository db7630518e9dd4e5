-- Small facts about lists, parts of lists and lists of ways.
use Rattle.std.proofs.Common.{◌≡◌, List, [], ◌∷◌, ◌++◌, refl, sym, ℕ, ap}
use Rattle.rng_deriv_laws.specs.plain.Derivatives.{Way, behind}
use Rattle.rng_model.specs.simple.Tree.{Simple}
use Rattle.rng_model.specs.names.Names.{Name}
use Rattle.rng_model.specs.matching.Document.{Attribute, Item, a_text, an_element, Interleaves, AllTexts, no_texts, text_and, SharesName, HasNoName, Distinct}
use Rattle.rng_model.specs.matching.Document.{nothing_named, another_name, none, one_more}
use Rattle.rng_model.specs.matching.Document as document
use Rattle.rng_deriv_laws.specs.plain.Blanks.{Every, nil, cons, IsNotBlank, IsBare, strings_alone, no_blanks}

-- ---- lists in parts

pub nil_parts : {A : Type 0} (xs ys : List A) → xs ++ ys ≡ [] → (xs ≡ []) × (ys ≡ [])
nil_parts [] ys e = (refl, e)
nil_parts (x ∷ xs) ys e = absurd (cc)

pub nothing_shared : {A : Type 0} {xs ys zs : List A} → Interleaves xs ys zs → xs ≡ [] → ys ≡ [] → zs ≡ []
nothing_shared document.done d e = refl
nothing_shared (document.left i) d e = absurd (cc)
nothing_shared (document.right i) d e = absurd (cc)

every_cut : {A : Type 0} (P : A → Type 0) (xs ys : List A) → Every P (xs ++ ys) → Every P xs × Every P ys
every_cut P [] ys all = (nil, all)
every_cut P (x ∷ xs) ys (cons p all) = let a = every_cut P xs ys all in (cons p a.0, a.1)

pub every_left : {A : Type 0} (P : A → Type 0) {xs ys zs : List A} → Interleaves xs ys zs → Every P zs → Every P xs
every_left P document.done all = nil
every_left P (document.left i) (cons p all) = cons p (every_left P i all)
every_left P (document.right i) (cons p all) = every_left P i all

pub every_right : {A : Type 0} (P : A → Type 0) {xs ys zs : List A} → Interleaves xs ys zs → Every P zs → Every P ys
every_right P document.done all = nil
every_right P (document.left i) (cons p all) = every_right P i all
every_right P (document.right i) (cons p all) = cons p (every_right P i all)

pub texts_cut : (xs ys : List Item) → AllTexts (xs ++ ys) → AllTexts xs × AllTexts ys
texts_cut [] ys all = (no_texts, all)
texts_cut (a_text s ∷ xs) ys (text_and all) = let r = texts_cut xs ys all in (text_and r.0, r.1)
texts_cut (an_element q zs kids ∷ xs) ys all = elim all [ ]

pub texts_left : {xs ys zs : List Item} → Interleaves xs ys zs → AllTexts zs → AllTexts xs
texts_left document.done all = no_texts
texts_left (document.left i) (text_and all) = text_and (texts_left i all)
texts_left (document.right i) (text_and all) = texts_left i all

pub texts_right : {xs ys zs : List Item} → Interleaves xs ys zs → AllTexts zs → AllTexts ys
texts_right document.done all = no_texts
texts_right (document.left i) (text_and all) = texts_right i all
texts_right (document.right i) (text_and all) = text_and (texts_right i all)

pub every_parts : (xs ys : List Item) → Every IsNotBlank (xs ++ ys) → Every IsNotBlank xs × Every IsNotBlank ys
every_parts xs ys all = every_cut IsNotBlank xs ys all

pub bare_cut : (xs ys : List Item) → IsBare (xs ++ ys) → IsBare xs × IsBare ys
bare_cut xs ys (strings_alone all) = let r = texts_cut xs ys all in (strings_alone r.0, strings_alone r.1)
bare_cut xs ys (no_blanks all) = let r = every_parts xs ys all in (no_blanks r.0, no_blanks r.1)

pub bare_left : {xs ys zs : List Item} → Interleaves xs ys zs → IsBare zs → IsBare xs
bare_left i (strings_alone all) = strings_alone (texts_left i all)
bare_left i (no_blanks all) = no_blanks (every_left IsNotBlank i all)

pub bare_right : {xs ys zs : List Item} → Interleaves xs ys zs → IsBare zs → IsBare ys
bare_right i (strings_alone all) = strings_alone (texts_right i all)
bare_right i (no_blanks all) = no_blanks (every_right IsNotBlank i all)

-- ---- names of attributes

no_name_left : {q : Name} {xs ys zs : List Attribute} → Interleaves xs ys zs → HasNoName q zs → HasNoName q xs
no_name_left document.done h = nothing_named
no_name_left (document.left i) (another_name d h) = another_name d (no_name_left i h)
no_name_left (document.right i) (another_name d h) = no_name_left i h

no_name_right : {q : Name} {xs ys zs : List Attribute} → Interleaves xs ys zs → HasNoName q zs → HasNoName q ys
no_name_right document.done h = nothing_named
no_name_right (document.left i) (another_name d h) = no_name_right i h
no_name_right (document.right i) (another_name d h) = another_name d (no_name_right i h)

-- parts of attributes with distinct names have distinct names, and no name is in both
pub distinct_left : {xs ys zs : List Attribute} → Interleaves xs ys zs → Distinct zs → Distinct xs
distinct_left document.done d = none
distinct_left (document.left i) (one_more h d) = one_more (no_name_left i h) (distinct_left i d)
distinct_left (document.right i) (one_more h d) = distinct_left i d

pub distinct_right : {xs ys zs : List Attribute} → Interleaves xs ys zs → Distinct zs → Distinct ys
distinct_right document.done d = none
distinct_right (document.left i) (one_more h d) = distinct_right i d
distinct_right (document.right i) (one_more h d) = one_more (no_name_right i h) (distinct_right i d)

apart_before : {a : Attribute} {xs ys : List Attribute} → HasNoName a.name ys → (SharesName xs ys → ⊥) → SharesName (a ∷ xs) ys → ⊥
apart_before (another_name d h) f (document.same e) = d (sym e)
apart_before h f (document.later_left s) = f s
apart_before (another_name d h) f (document.later_right s) = apart_before h (λ t. f (document.later_right t)) s

apart_behind : {b : Attribute} {xs ys : List Attribute} → HasNoName b.name xs → (SharesName xs ys → ⊥) → SharesName xs (b ∷ ys) → ⊥
apart_behind (another_name d h) f (document.same e) = d e
apart_behind (another_name d h) f (document.later_left s) = apart_behind h (λ t. f (document.later_left t)) s
apart_behind h f (document.later_right s) = f s

pub apart : {xs ys zs : List Attribute} → Interleaves xs ys zs → Distinct zs → SharesName xs ys → ⊥
apart document.done d s = elim s [ ]
apart (document.left i) (one_more h d) s = apart_before (no_name_right i h) (apart i d) s
apart (document.right i) (one_more h d) s = apart_behind (no_name_left i h) (apart i d) s

pub apart_nothing : {xs : List Attribute} → SharesName xs [] → ⊥
apart_nothing (document.later_left s) = apart_nothing s

pub nothing_apart : {xs : List Attribute} → SharesName [] xs → ⊥
nothing_apart (document.later_right s) = nothing_apart s

-- ---- lists of ways

pub behind-append : (f : Simple ℕ → Simple ℕ) (ws vs : List Way) → behind f (ws ++ vs) ≡ behind f ws ++ behind f vs
behind-append f [] vs = refl
behind-append f (w ∷ ws) vs = ap (λ us. record { leaf = w.leaf; rest = f w.rest } ∷ us) (behind-append f ws vs)

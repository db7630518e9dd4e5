-- Whatever is read is in the grammar: name classes.
use Rattle.std.proofs.Common.{◌≡◌, ℕ, List, [], ◌∷◌, ◌++◌, Option, Some, None, Ok, refl, sym, ap, subst, ◌∙◌, append_assoc}
use Rattle.std.proofs.lemmas.List.{append-nil}
use Rattle.std.proofs.lemmas.Option.{same_Some}
use Rattle.rnc_model.specs.declared.token.Sign.TheVariants.{Bar, Star, Minus, OpenParenthesis, CloseParenthesis}
use Rattle.rnc_model.specs.tokens.Cut.{Lexeme, keyword, identifier, cname, ns_name, segment, sign}
use Rattle.rnc_model.specs.grammar.Syntax as syntax
use Rattle.rnc_model.specs.grammar.Syntax.{written, NameClassAt}
use Rattle.rnc_model.specs.grammar.NameClasses as grammar
use Rattle.rnc_model.specs.grammar.NameClasses.{MayBeAnnotation, IsClass, AreMoreClasses, IsBasic, IsBareBasic}
use Rattle.rnc_syntax.specs.plain.Combinators.{Outcome, ◌>>=◌, follow, either_way, many}
use Rattle.rnc_syntax.specs.plain.Productions.{class_in_parens, bare_basic_with, basic_with, choice_with, wide_front, except_front, excepted, bare_class_with}
use Rattle.rnc_syntax.specs.plain.Productions.{class_with}
use Rattle.rnc_syntax.proofs.Soundness.{bind_ok, front_some, ok_is, follow_is, TakesFront, Sound, Preceded, closes_sound, Each, no_items, and_item}
use Rattle.rnc_syntax.proofs.Soundness.{many_sound, some_is_read, preceded_sound, nothing_left}
use Rattle.rnc_syntax.proofs.Soundness.Annotations.{SoundBehind, annotated_sound, bare_sound}

bare_basic_sound : (class : List Lexeme → Outcome (NameClassAt written)) → Sound class IsClass → Sound (bare_basic_with class) IsBareBasic
unfolding bare_basic_with class_in_parens
bare_basic_sound class sound [] x e = absurd cc
bare_basic_sound class sound (identifier w ∷ ts) x e = subst (TakesFront IsBareBasic (identifier w ∷ ts)) (ok_is (syntax.name_is (syntax.unprefixed w), ts) x e)
    (record { front = identifier w ∷ []; is = grammar.word_class {x = identifier w} refl refl; parts = refl })
bare_basic_sound class sound (keyword k s ∷ ts) x e = subst (TakesFront IsBareBasic (keyword k s ∷ ts)) (ok_is (syntax.name_is (syntax.unprefixed s.text), ts) x
    e) (record { front = keyword k s ∷ []; is = grammar.word_class {x = keyword k s} refl refl; parts = refl })
bare_basic_sound class sound (cname p l ∷ ts) x e = subst (TakesFront IsBareBasic (cname p l ∷ ts)) (ok_is (syntax.name_is (syntax.prefixed p l), ts) x e)
    (record { front = cname p l ∷ []; is = grammar.cname_class refl; parts = refl })
bare_basic_sound class sound (ns_name p ∷ ts) x e = subst (TakesFront IsBareBasic (ns_name p ∷ ts)) (ok_is (syntax.ns_name p, ts) x e)
    (record { front = ns_name p ∷ []; is = grammar.ns_class refl; parts = refl })
bare_basic_sound class sound (segment w ∷ ts) x e = absurd cc
bare_basic_sound class sound (sign Star ∷ ts) x e = subst (TakesFront IsBareBasic (sign Star ∷ ts)) (ok_is (syntax.any_name, ts) x e)
    (record { front = sign Star ∷ []; is = grammar.any_class refl; parts = refl })
bare_basic_sound class sound (sign OpenParenthesis ∷ ts) x e =
    let p = closes_sound IsClass CloseParenthesis class sound ts x e in
    record {
      front = sign OpenParenthesis ∷ p.front;
      is = grammar.class_in_parens p.is.is (ap (λ (r : List Lexeme). sign OpenParenthesis ∷ r) p.is.parts);
      parts = ap (λ (r : List Lexeme). sign OpenParenthesis ∷ r) p.parts;
    }
bare_basic_sound class sound (sign _ ∷ ts) x e = absurd cc

pub basic_is : (n ts : List Lexeme) (c : NameClassAt written) → MayBeAnnotation n → IsBareBasic ts c → IsBasic (n ++ ts) c
basic_is n ts c may is = grammar.annotated_basic may is refl

pub bare_basic_behind : (class : List Lexeme → Outcome (NameClassAt written)) → Sound class IsClass → SoundBehind (bare_basic_with class) IsBasic
bare_basic_behind class sound = bare_sound IsBasic (bare_basic_with class) IsBareBasic (bare_basic_sound class sound) basic_is

pub basic_sound : (class : List Lexeme → Outcome (NameClassAt written)) → Sound class IsClass → Sound (basic_with class) IsBasic
unfolding basic_with
basic_sound class sound = annotated_sound IsBasic (bare_basic_with class) (bare_basic_behind class sound)

last_parts : (ts a b r : List Lexeme) → ts ≡ a ++ b → a ≡ sign Bar ∷ r → b ≡ [] → ts ≡ sign Bar ∷ r
last_parts ts a b r e f g = e ∙ ap (λ (b : List Lexeme). a ++ b) g ∙ append-nil a ∙ f

pub more_classes_are : {ts : List Lexeme} {cs : List (NameClassAt written)} → Each (Preceded IsBasic Bar) ts cs
    → (y : NameClassAt written) (ys : List (NameClassAt written)) → y ∷ ys ≡ cs → AreMoreClasses ts cs
more_classes_are (no_items e) y ys ne = absurd cc
more_classes_are {ts} (and_item {xs = []} {a = a} {b = b} p q parts) y ys ne = grammar.last_class p.is (last_parts ts a b p.rest parts p.parts (nothing_left q))
more_classes_are {ts} (and_item {xs = z ∷ zs} {a = a} {b = b} p q parts) y ys ne = grammar.more_classes p.is (more_classes_are q z zs refl)
    (parts ∙ ap (λ (a : List Lexeme). a ++ b) p.parts)

choice_reads : (ts rest front : List Lexeme) (c : NameClassAt written) (others : List (NameClassAt written) × List Lexeme) (y : NameClassAt written)
    (ys : List (NameClassAt written)) → IsBasic front c → ts ≡ front ++ rest → y ∷ ys ≡ others.0 → TakesFront (Each (Preceded IsBasic Bar)) rest others
    → TakesFront IsClass ts (syntax.choice_of (c ∷ others.0), others.1)
choice_reads ts rest front c others y ys one parts ne q = record {
  front = front ++ q.front;
  is = grammar.choice_class one (more_classes_are q.is y ys ne) refl refl;
  parts = parts ∙ ap (λ (r : List Lexeme). front ++ r) q.parts ∙ sym (append_assoc front q.front others.1);
}

-- `*` or `p:*`, before these tokens
abbrev wide_tokens : Option (List ℕ) → List Lexeme → List Lexeme
wide_tokens None ts = sign Star ∷ ts
wide_tokens (Some p) ts = ns_name p ∷ ts

-- `*` or `p:*`, and `-`, before these tokens
abbrev pub except_tokens : Option (List ℕ) → List Lexeme → List Lexeme
except_tokens None ts = sign Star ∷ sign Minus ∷ ts
except_tokens (Some p) ts = ns_name p ∷ sign Minus ∷ ts

wide_is : (ts : List Lexeme) (y : Option (List ℕ) × List Lexeme) → wide_front ts ≡ Some y → ts ≡ wide_tokens y.0 y.1
wide_is (sign Star ∷ ts) y e = subst (λ (y : Option (List ℕ) × List Lexeme). sign Star ∷ ts ≡ wide_tokens y.0 y.1) (same_Some (None, ts) y e) refl
wide_is (ns_name p ∷ ts) y e = subst (λ (y : Option (List ℕ) × List Lexeme). ns_name p ∷ ts ≡ wide_tokens y.0 y.1) (same_Some (Some p, ts) y e) refl
wide_is _ y e = absurd cc

wide_minus : (o : Option (List ℕ)) (ts rest : List Lexeme) → ts ≡ sign Minus ∷ rest → wide_tokens o ts ≡ except_tokens o rest
wide_minus None ts rest e = ap (λ (r : List Lexeme). sign Star ∷ r) e
wide_minus (Some p) ts rest e = ap (λ (r : List Lexeme). ns_name p ∷ r) e

pub except_is : (ts : List Lexeme) (y : Option (List ℕ) × List Lexeme) → except_front ts ≡ Some y → ts ≡ except_tokens y.0 y.1
except_is ts y e =
    let w = front_some (wide_front ts) (λ x. either_way (follow Minus x.1) None (λ us. Some (x.0, us))) y e in
    let m = front_some (follow Minus w.0.1) (λ us. Some (w.0.0, us)) y w.2 in
    subst (λ (y : Option (List ℕ) × List Lexeme). ts ≡ except_tokens y.0 y.1) (same_Some (w.0.0, m.0) y m.2)
    (wide_is ts w.0 w.1 ∙ wide_minus w.0.0 w.0.1 m.0 (follow_is Minus w.0.1 m.0 m.1))

-- after an annotation
excepted_reads : (n : List Lexeme) (o : Option (List ℕ)) (ts rest : List Lexeme) (c : NameClassAt written × List Lexeme) → MayBeAnnotation n
    → ts ≡ except_tokens o rest → TakesFront IsBasic rest c → TakesFront IsClass (n ++ ts) (excepted o c.0, c.1)
excepted_reads n None ts rest c may f p = record {
  front = n ++ sign Star ∷ sign Minus ∷ p.front;
  is = grammar.any_except may p.is refl;
  parts = ap (λ (r : List Lexeme). n ++ r) (f ∙ ap (λ (r : List Lexeme). sign Star ∷ sign Minus ∷ r) p.parts)
      ∙ sym (append_assoc n (sign Star ∷ sign Minus ∷ p.front) c.1);
}
excepted_reads n (Some q) ts rest c may f p = record {
  front = n ++ ns_name q ∷ sign Minus ∷ p.front;
  is = grammar.ns_except may p.is refl;
  parts = ap (λ (r : List Lexeme). n ++ r) (f ∙ ap (λ (r : List Lexeme). ns_name q ∷ sign Minus ∷ r) p.parts)
      ∙ sym (append_assoc n (ns_name q ∷ sign Minus ∷ p.front) c.1);
}

module _ (basic : List Lexeme → Outcome (NameClassAt written)) (sound : Sound basic IsBasic) where
  choice_step : (ts rest front : List Lexeme) (c : NameClassAt written) (x : NameClassAt written × List Lexeme) (o : Option (List Lexeme)) → IsBasic front c
      → ts ≡ front ++ rest → follow Bar rest ≡ o
      → either_way o (Ok (c, rest)) (λ us. many (follow Bar) basic rest >>= λ others. Ok (syntax.choice_of (c ∷ others.0), others.1)) ≡ Ok x
      → TakesFront IsClass ts x
  choice_step ts rest front c x None one parts is e = subst (TakesFront IsClass ts) (ok_is (c, rest) x e)
      (record { front = front; is = grammar.basic_class one; parts = parts })
  choice_step ts rest front c x (Some us) one parts is e =
      let a = bind_ok (many (follow Bar) basic rest) _ x e in
      let some = some_is_read (Preceded IsBasic Bar) (follow Bar) basic refl rest us a.0 is a.1 in
      subst (TakesFront IsClass ts) (ok_is (syntax.choice_of (c ∷ a.0.0), a.0.1) x a.2)
      (choice_reads ts rest front c a.0 some.0 some.1 one parts some.2
      (many_sound (Preceded IsBasic Bar) (follow Bar) basic (preceded_sound IsBasic Bar basic sound) rest a.0 a.1))

  choice_sound : (ts : List Lexeme) (c : NameClassAt written × List Lexeme) (x : NameClassAt written × List Lexeme) → TakesFront IsBasic ts c
      → choice_with basic c.0 c.1 ≡ Ok x → TakesFront IsClass ts x
  unfolding choice_with
  choice_sound ts c x p e = choice_step ts c.1 p.front c.0 x (follow Bar c.1) p.is p.parts refl e

module _ (class : List Lexeme → Outcome (NameClassAt written)) (sound : Sound class IsClass) where
  class_step : (n ts : List Lexeme) (x : NameClassAt written × List Lexeme) (o : Option (Option (List ℕ) × List Lexeme)) → MayBeAnnotation n → except_front ts ≡ o
      → either_way o (bare_basic_with class ts >>= λ c. choice_with (basic_with class) c.0 c.1) (λ x. basic_with class x.1 >>= λ c. Ok (
        excepted x.0 c.0,
        c.1,
      )) ≡ Ok x → TakesFront IsClass (n ++ ts) x
  class_step n ts x None may is e =
      let a = bind_ok (bare_basic_with class ts) _ x e in
      choice_sound (basic_with class) (basic_sound class sound) (n ++ ts) a.0 x (bare_basic_behind class sound n may ts a.0 a.1) a.2
  class_step n ts x (Some y) may is e =
      let a = bind_ok (basic_with class y.1) _ x e in
      subst (TakesFront IsClass (n ++ ts)) (ok_is (excepted y.0 a.0.0, a.0.1) x a.2)
      (excepted_reads n y.0 ts y.1 a.0 may (except_is ts y is) (basic_sound class sound y.1 a.0 a.1))

  bare_class_behind : SoundBehind (bare_class_with class) IsClass
  unfolding bare_class_with
  bare_class_behind n may ts x e = class_step n ts x (except_front ts) may refl e

  pub class_sound : Sound (class_with class) IsClass
  unfolding class_with
  class_sound = annotated_sound IsClass (bare_class_with class) bare_class_behind

-- What the symbols of a class are a part of, at each place in it.
use Rattle.std.proofs.Common.{◌≡◌, ◌≢◌, ◌∙◌, ◌≤◌, ℕ, zero, suc, List, [], ◌∷◌, ◌++◌, codes, Bool, true, false, cond, not, ◌==◌}
use Rattle.std.proofs.Common.{refl, ap, eqb-true}
use Rattle.std.specs.List.{list_any}
use Rattle.rng_model.specs.declared.regex_mode.ClassPlace.{ClassPlace}
use Rattle.rng_model.specs.declared.regex_mode.ClassPlace.TheVariants as place
use Rattle.rng_model.specs.regexes.Expressions.{Class, no_char, only_char, char_from_to, either_class, complement}
use Rattle.rng_model.specs.regexes.Symbols.{Symbol, char, escaped, class}
use Rattle.rng_model.specs.regexes.ExpressionGrammar.{IsEnd, plain_end, IsMember, range, one_char}
use Rattle.rng_model.specs.regexes.ExpressionGrammar.{AreMembers, first_member, member_and, IsPositive, begins_with_caret}
use Rattle.rng_model.specs.regexes.ExpressionGrammar.{IsPlainGroup, positive, negative}
use Rattle.rng_model.specs.regexes.plain.ClassSteps.{is_end, is_dash, is_caret}

-- ---- members, or none yet

pub data Members : List Symbol → Class → Type 0 where
  none_yet : Members [] no_char
  some : {us : List Symbol} {k : Class} → AreMembers us k → Members us k

pub more_members : {vs : List Symbol} {k : Class} (ws : List Symbol) (l : Class) → Members vs k → IsMember ws l → AreMembers (vs ++ ws) (either_class k l)
more_members ws l none_yet is = first_member is
more_members ws l (some more) is = member_and more is refl

-- ---- what is behind `[`, and behind `^`

pub data Headed : Bool → List Symbol → List Symbol → Type 0 where
  with_caret : {vs : List Symbol} → Headed true (char 0x5E ∷ vs) vs
  without_caret : {vs : List Symbol} → begins_with_caret vs ≡ false → Headed false vs vs

head_stays : (vs ws : List Symbol) → vs ≢ [] → begins_with_caret (vs ++ ws) ≡ begins_with_caret vs
head_stays [] ws e = absurd (e refl)
head_stays (char c ∷ vs) ws e = refl
head_stays (escaped c ∷ vs) ws e = refl
head_stays (class k ∷ vs) ws e = refl

pub headed_more : {neg : Bool} {ws vs : List Symbol} (u : Symbol) → vs ≢ [] → Headed neg ws vs → Headed neg (ws ++ u ∷ []) (vs ++ u ∷ [])
headed_more u e with_caret = with_caret
headed_more u e (without_caret {vs} h) = without_caret (head_stays vs (u ∷ []) e ∙ h)

caret_same : (u : Symbol) → begins_with_caret (u ∷ []) ≡ is_caret u
caret_same (char c) = refl
caret_same (escaped c) = refl
caret_same (class k) = refl

pub headed_first : (u : Symbol) → is_caret u ≡ false → Headed false (u ∷ []) (u ∷ [])
headed_first u e = without_caret (caret_same u ∙ e)

abbrev pub negated : Bool → Class → Class
negated neg k = cond neg (complement k) k

pub plain_group : {neg : Bool} {ws vs : List Symbol} {k : Class} → Headed neg ws vs → IsPositive vs k → IsPlainGroup ws (negated neg k)
plain_group with_caret is = negative is
plain_group (without_caret e) is = positive is e

-- ---- what is behind `[` at a place

pub data Group : Bool → ClassPlace → List Symbol → Class → Type 0 where
  at_first : Group true place.First (char 0x5E ∷ []) no_char
  at_member : {neg : Bool} {ws xs : List Symbol} {k : Class} → Headed neg ws xs → AreMembers xs k → Group neg place.Member ws k
  at_char : {neg : Bool} {ws xs ys : List Symbol} {u : Symbol} {c : ℕ} {k : Class} → Headed neg ws xs → Members ys k → IsEnd u c → xs ≡ ys ++ u ∷ []
      → Group neg (place.Char c) ws k
  at_range : {neg : Bool} {ws xs ys all : List Symbol} {u : Symbol} {c : ℕ} {k : Class} → Headed neg ws xs → Members ys k → IsEnd u c → xs ≡ ys ++ u ∷ []
      → all ≡ ws ++ char 0x2D ∷ [] → Group neg (place.Range c) all k
  at_dash : {neg : Bool} {ws xs all : List Symbol} {k : Class} → Headed neg ws xs → AreMembers xs k → all ≡ ws ++ char 0x2D ∷ [] → Group neg place.Dash all k
  at_last : {neg : Bool} {ws xs all : List Symbol} {k : Class} → Headed neg ws xs → IsPositive xs k → all ≡ ws ++ char 0x2D ∷ [] → Group neg place.Last all k

-- ---- an end of a range

pub end_of_char : (c : ℕ) → is_end c ≡ true → IsEnd (char c) c
end_of_char c e = plain_end (by (list_any (λ m. c == m) (codes "\\-[]")) e)
  where
    by : (b : Bool) → not b ≡ true → b ≡ false
    by true e = cc
    by false e = refl

pub some_there : (vs : List Symbol) (u : Symbol) → vs ++ u ∷ [] ≢ []
some_there [] u e = cc
some_there (x ∷ vs) u e = cc

-- a character that is behind members is one more
pub one_more_char : {vs : List Symbol} {k : Class} (u : Symbol) (c : ℕ) → Members vs k → IsEnd u c → AreMembers (vs ++ u ∷ []) (either_class k (only_char c))
one_more_char u c more is = more_members (u ∷ []) (only_char c) more (one_char is)

pub one_more_range : {vs : List Symbol} {k : Class} (u v : Symbol) (low high : ℕ) → Members vs k → IsEnd u low → IsEnd v high → low ≤ high
    → AreMembers (vs ++ u ∷ char 0x2D ∷ v ∷ []) (either_class k (char_from_to low high))
one_more_range u v low high more first last le = more_members (u ∷ char 0x2D ∷ v ∷ []) (char_from_to low high) more (range first last le)

pub dash_is : (u : Symbol) → is_dash u ≡ true → u ≡ char 0x2D
dash_is (char c) e = ap char (eqb-true c 0x2D e)
dash_is (escaped c) e = cc
dash_is (class k) e = cc

pub caret_is : (u : Symbol) → is_caret u ≡ true → u ≡ char 0x5E
caret_is (char c) e = ap char (eqb-true c 0x5E e)
caret_is (escaped c) e = cc
caret_is (class k) e = cc

-- ---- what is before the class that is open, from the first `[` on

pub data InClass : List Symbol → ℕ → List Class → Type 0 where
  outermost : InClass (char 0x5B ∷ []) zero []
  inner : {us vs all : List Symbol} {d : ℕ} {ks : List Class} {k : Class} → InClass us d ks → IsPlainGroup vs k
      → all ≡ us ++ (vs ++ char 0x2D ∷ char 0x5B ∷ []) → InClass all (suc d) (k ∷ ks)

-- Which characters a class in brackets holds, group by group.
use Rattle.std.proofs.Common.{◌≡◌, ◌∙◌, ℕ, zero, suc, ◌+◌, ◌<◌, ◌≤◌, List, [], ◌∷◌, length, drop, map, slice_index_or, arith, add-one}
use Rattle.std.proofs.Common.{Bool, true, false, cond, not, ◌&&◌, ◌||◌, refl, sym, ap}
use Rattle.std.specs.Bool.{beq}
use Rattle.std.proofs.lemmas.List.{drop_all, length-map}
use Rattle.xsd_regex.specs.declared.class.Member.{Member}
use Rattle.xsd_regex.specs.declared.class.Member.TheVariants as members
use Rattle.xsd_regex.specs.views.Classes.{mark_of}
use Rattle.rng_model.specs.regexes.Expressions.{Class, holds, no_char, either_class}
use Rattle.rng_model.specs.regexes.plain.Spelling.{negated_if}
use Rattle.xsd_regex.specs.plain.Groups.{Mark, member, ends, class_with, class_of_marks, holds_with}

negated_holds : (neg : Bool) (k : Class) (c : ℕ) → holds (negated_if neg k) c ≡ cond neg (not (holds k c)) (holds k c)
negated_holds true k c = refl
negated_holds false k c = refl

at_end : (b neg : Bool) (ms : List Mark) (c : ℕ) → holds_with b (ends neg ∷ ms) c ≡ cond neg (not b) b && not (holds_with false ms c)
unfolding holds_with
at_end true true ms c = refl
at_end true false ms c = refl
at_end false true ms c = refl
at_end false false ms c = refl

at_last : (b neg : Bool) (c : ℕ) → holds_with b (ends neg ∷ []) c ≡ cond neg (not b) b
unfolding holds_with
at_last true true c = refl
at_last true false c = refl
at_last false true c = refl
at_last false false c = refl

pub holds_is : (k : Class) (ms : List Mark) (c : ℕ) → holds (class_with k ms) c ≡ holds_with (holds k c) ms c
unfolding class_with holds_with
holds_is k [] c = refl
holds_is k (member l ∷ ms) c = holds_is (either_class k l) ms c
holds_is k (ends neg ∷ []) c = negated_holds neg k c ∙ sym (at_last (holds k c) neg c)
holds_is k (ends neg ∷ m ∷ ms) c =
    rw (negated_holds neg k c, holds_is no_char (m ∷ ms) c) (sym (at_end (holds k c) neg (m ∷ ms) c))

double_not : (b : Bool) → not (not b) ≡ b
double_not true = refl
double_not false = refl

-- ---- what the groups before a place make of those behind it

abbrev pub flipped : Bool → Bool → Bool
flipped b x = cond b (not x) x

-- a test of two truth values
pub stops : (b neg s : Bool) (ms : List Mark) (c : ℕ) → beq b neg ≡ true → flipped s (holds_with b (ends neg ∷ ms) c) ≡ s
unfolding holds_with
stops true true true ms c e = refl
stops true true false ms c e = refl
stops false false true ms c e = refl
stops false false false ms c e = refl
stops true false s ms c e = cc
stops false true s ms c e = cc

pub goes_on : (b neg s : Bool) (ms : List Mark) (c : ℕ) → beq b neg ≡ false
    → flipped s (holds_with b (ends neg ∷ ms) c) ≡ flipped (not s) (holds_with false ms c)
unfolding holds_with
goes_on true true s ms c e = cc
goes_on false false s ms c e = cc
goes_on true false true ms c e = double_not (holds_with false ms c)
goes_on true false false ms c e = refl
goes_on false true true ms c e = double_not (holds_with false ms c)
goes_on false true false ms c e = refl

pub flips_at_end : (b s : Bool) → flipped s b ≡ not (beq b s)
flips_at_end true true = refl
flips_at_end true false = refl
flips_at_end false true = refl
flips_at_end false false = refl

-- ---- the members of a slice

pub mark_at : (ms : List Member) (i : ℕ) (d m : Member) → i < length ms → slice_index_or ms i d ≡ m
    → drop i (map mark_of ms) ≡ mark_of m ∷ drop (suc i) (map mark_of ms)
mark_at [] i d m lt e = absurd (omega (arith, lt))
mark_at (x ∷ ms) zero d m lt e = ap (λ y. mark_of y ∷ map mark_of ms) e
mark_at (x ∷ ms) (suc i) d m lt e = mark_at ms i d m (omega (arith, lt)) e

-- one more mark is passed
pub passes_mark : (ms : List Member) (i : ℕ) (d m : Member) (b s b' s' : Bool) (c : ℕ) → i < length ms → slice_index_or ms i d ≡ m
    → ((rest : List Mark) → flipped s (holds_with b (mark_of m ∷ rest) c) ≡ flipped s' (holds_with b' rest c))
    → flipped s (holds_with b (drop i (map mark_of ms)) c) ≡ holds_with false (map mark_of ms) c
    → flipped s' (holds_with b' (drop (i + 1) (map mark_of ms)) c) ≡ holds_with false (map mark_of ms) c
passes_mark ms i d m b s b' s' c lt e step inv =
    rw (add-one i) (
    sym (step (drop (suc i) (map mark_of ms))) ∙ ap (λ l. flipped s (holds_with b l c)) (sym (mark_at ms i d m lt e)) ∙ inv
    )

pub stops_there : (ms : List Member) (i : ℕ) (d : Member) (neg b s : Bool) (c : ℕ) → i < length ms → slice_index_or ms i d ≡ members.End neg
    → beq b neg ≡ true → flipped s (holds_with b (drop i (map mark_of ms)) c) ≡ holds_with false (map mark_of ms) c
    → s ≡ holds (class_of_marks (map mark_of ms)) c
stops_there ms i d neg b s c lt e t inv =
    sym (stops b neg s (drop (suc i) (map mark_of ms)) c t)
    ∙ ap (λ l. flipped s (holds_with b l c)) (sym (mark_at ms i d (members.End neg) lt e)) ∙ inv ∙ sym (holds_is no_char (map mark_of ms) c)

pub past_all : (ms : List Member) (i : ℕ) (b s : Bool) (c : ℕ) → length ms ≤ i
    → flipped s (holds_with b (drop i (map mark_of ms)) c) ≡ holds_with false (map mark_of ms) c
    → not (beq b s) ≡ holds (class_of_marks (map mark_of ms)) c
unfolding holds_with
past_all ms i b s c le inv =
    let none : drop i (map mark_of ms) ≡ [] = drop_all i (map mark_of ms) (rw (length-map ms mark_of) le) in
    sym (flips_at_end b s) ∙ ap (λ l. flipped s (holds_with b l c)) (sym none) ∙ inv ∙ sym (holds_is no_char (map mark_of ms) c)

pub member_step : (b h s t : Bool) (l : Class) (c : ℕ) (rest : List Mark) → h ≡ (b || holds l c) → t ≡ s
    → flipped s (holds_with b (member l ∷ rest) c) ≡ flipped t (holds_with h rest c)
unfolding holds_with
member_step b h s t l c rest e f = rw (e, f) refl

pub kept_true : (b x h : Bool) → h ≡ b → b ≡ true → h ≡ (b || x)
kept_true true x h e t = e
kept_true false x h e t = cc

pub other_is : (b x y h : Bool) → h ≡ x → x ≡ y → b ≡ false → h ≡ (b || y)
other_is true x y h e f t = cc
other_is false x y h e f t = e ∙ f

pub end_step : (b neg h s t : Bool) (c : ℕ) (rest : List Mark) → beq b neg ≡ false → h ≡ false → t ≡ not s
    → flipped s (holds_with b (ends neg ∷ rest) c) ≡ flipped t (holds_with h rest c)
end_step b neg h s t c rest n e f = rw (e, f) (goes_on b neg s rest c n)

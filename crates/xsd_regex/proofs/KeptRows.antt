-- What the code keeps is what the machine holds: the rows are those of the expressions held, one after the other, and the members
-- of the open class mean the classes held.
use Rattle.std.proofs.Common.{◌≡◌, ◌∙◌, ◌==◌, ℕ, List, [], ◌∷◌, ◌++◌, Bool, true, false, cond, Option, Some, None, refl, sym, ap, subst, nat_le, nat_lt}
use Rattle.std.specs.Bool.{⊤}
use Rattle.std.specs.Option.{option_and_then}
use Rattle.std.specs.Char.{digit_value}
use Rattle.std.proofs.lemmas.List.{append_assoc}
use Rattle.rng_model.specs.declared.regex_mode.RegexMode.{RegexMode}
use Rattle.rng_model.specs.declared.regex_mode.RegexMode.TheVariants as mode
use Rattle.rng_model.specs.declared.regex_mode.ClassPlace.{ClassPlace}
use Rattle.rng_model.specs.declared.regex_mode.ClassPlace.TheVariants as place
use Rattle.rng_model.specs.regexes.Expressions.{Class, no_char, only_char, char_from_to, either_class, complement, minus}
use Rattle.rng_model.specs.regexes.Expressions.{Regex, nothing_more, one_of, both, either, times}
use Rattle.rng_model.specs.regexes.Symbols.{Symbol, char, escaped, class}
use Rattle.rng_model.specs.regexes.ExpressionGrammar.{is_meta}
use Rattle.xsd_regex.specs.plain.Groups.{Mark, member, ends, class_with, class_of_marks}
use Rattle.rng_model.specs.regexes.plain.Spelling.{negated_if}
use Rattle.rng_model.specs.regexes.plain.Postfix.{nothing_row, class_row, both_row, either_row, times_row, Row, postfix}
use Rattle.rng_model.specs.regexes.plain.ClassSteps as machine
use Rattle.rng_model.specs.regexes.plain.ClassSteps.{State, dash, is_end}
use Rattle.rng_model.specs.regexes.plain.Machine as steps
use Rattle.rng_model.specs.regexes.plain.Machine.{opens_quantifier}
use Rattle.xsd_regex.specs.plain.KeptSteps as kept
use Rattle.xsd_regex.specs.plain.KeptSteps.{Kept}
use Rattle.xsd_regex.proofs.CompleteClasses.{st}
use Rattle.xsd_regex.proofs.SoundClasses.{InClass, outermost, inner}
use Rattle.xsd_regex.proofs.ReadSymbols as reads
use Rattle.xsd_regex.proofs.ReadSymbols.{Outer, no_outer, after_bar, InBranch, in_branch, AtAtom, at_atom, settled, Reads, ready, atom, least, most}
use Rattle.xsd_regex.proofs.ReadSymbols.{open_class, in_class, closed, ReadsTo}

-- what is kept, by its parts
abbrev pub kp : List Mark → List Row → List Bool → Bool → ℕ → RegexMode → Kept
kp ms rs gs b d m = record { members = ms; rows = rs; groups = gs; alternative = b; depth = d; mode = m }

-- the rows of expressions, the last one first
unfoldable pub posts : List Regex → List Row
posts [] = []
posts (q ∷ qs) = posts qs ++ postfix q

-- the class that is left once all that are open have ended, of which this is the last one
unfoldable pub all_minus : Class → List Class → Class
all_minus k [] = k
all_minus k (g ∷ ks) = all_minus (minus g k) ks

-- the class that is written so far, and those that it is subtracted from, are what the members say
pub record Within (ms : List Mark) (k : Class) (ks : List Class) : Type 0 where
  pub goes : (m : Mark) (rest : List Mark) → all_minus (class_with k (m ∷ rest)) ks ≡ class_of_marks (ms ++ m ∷ rest)

abbrev pub MeansOpen : List Mark → List Class → Type 0
MeansOpen ms [] = ⊥
MeansOpen ms (k ∷ ks) = Within ms k ks

abbrev pub MeansClosed : List Mark → List Class → Type 0
MeansClosed ms [] = ⊥
MeansClosed ms (k ∷ ks) = all_minus k ks ≡ class_of_marks ms

abbrev pub Means : RegexMode → List Mark → List Class → Type 0
Means mode.Ready ms ks = ms ≡ []
Means mode.Atom ms ks = ms ≡ []
Means (mode.Least n) ms ks = ms ≡ []
Means (mode.Most n o) ms ks = ms ≡ []
Means mode.Open ms ks = MeansOpen ms ks
Means (mode.Group neg p) ms ks = MeansOpen ms ks
Means mode.Closed ms ks = MeansClosed ms ks

pub record Same (w : Kept) (s : State) : Type 0 where
  pub rows : w.rows ≡ posts s.held.regexes
  pub members : Means s.mode w.members s.held.classes
  pub control : w ≡ kp w.members w.rows s.groups s.alternative s.depth s.mode

abbrev pub Follows : Option Kept → machine.Next → Type 0
Follows None None = ⊤
Follows None (Some s) = ⊥
Follows (Some w) None = ⊥
Follows (Some w) (Some s) = Same w s

abbrev pub IsWhole : Option (List Row) → Option Regex → Type 0
IsWhole None None = ⊤
IsWhole None (Some r) = ⊥
IsWhole (Some rs) None = ⊥
IsWhole (Some rs) (Some r) = rs ≡ postfix r

on_test : (a : Bool) (x y : Option Kept) (p q : machine.Next) → Follows x p → Follows y q → Follows (cond a x y) (cond a p q)
on_test true x y p q f g = f
on_test false x y p q f g = g

-- ---- rows

two_rows : (P X Y : List Row) (r : Row) → ((P ++ X) ++ Y) ++ r ∷ [] ≡ P ++ (X ++ (Y ++ r ∷ []))
two_rows P X Y r = append_assoc (P ++ X) Y (r ∷ []) ∙ append_assoc P X (Y ++ r ∷ [])

nothing_rows : (rs : List Row) (qs : List Regex) → rs ≡ posts qs → rs ++ nothing_row ∷ [] ≡ posts (nothing_more ∷ qs)
unfolding posts postfix
nothing_rows rs qs e = ap (λ l. l ++ nothing_row ∷ []) e

class_rows : (k : Class) (rs : List Row) (qs : List Regex) → rs ≡ posts qs → rs ++ class_row k ∷ [] ≡ posts (one_of k ∷ qs)
unfolding posts postfix
class_rows k rs qs e = ap (λ l. l ++ class_row k ∷ []) e

both_rows : (rs : List Row) (x a : Regex) (qs : List Regex) → rs ≡ posts (x ∷ a ∷ qs) → rs ++ both_row ∷ [] ≡ posts (both a x ∷ qs)
unfolding posts postfix
both_rows rs x a qs e = ap (λ l. l ++ both_row ∷ []) e ∙ two_rows (posts qs) (postfix a) (postfix x) both_row

either_rows : (rs : List Row) (x a : Regex) (qs : List Regex) → rs ≡ posts (x ∷ a ∷ qs) → rs ++ either_row ∷ [] ≡ posts (either a x ∷ qs)
unfolding posts postfix
either_rows rs x a qs e = ap (λ l. l ++ either_row ∷ []) e ∙ two_rows (posts qs) (postfix a) (postfix x) either_row

alone : (r : Regex) → posts (r ∷ []) ≡ postfix r
unfolding posts
alone r = refl

times_rows : (n : ℕ) (o : Option ℕ) (rs : List Row) (x : Regex) (qs : List Regex) → rs ≡ posts (x ∷ qs) → rs ++ times_row n o ∷ [] ≡ posts (times n o x ∷ qs)
unfolding posts postfix
times_rows n o rs x qs e = ap (λ l. l ++ times_row n o ∷ []) e ∙ append_assoc (posts qs) (postfix x) (times_row n o ∷ [])

-- ---- where a piece may begin

new_atom : (k : Class) (m l : RegexMode) (rs : List Row) (qs : List Regex) (gs : List Bool) (b : Bool) → rs ≡ posts qs
    → Same (kept.atom_of k (kp [] rs gs b 0 m)) (steps.atom_of k (st [] qs gs b 0 l))
new_atom k m l rs qs gs b e = record { rows = class_rows k rs qs e; members = refl; control = refl }

opened : Within [] no_char []
unfolding all_minus
opened = record { goes = λ k rest. refl }

module _ (m l : RegexMode) (rs : List Row) where
  bars : {us : List Symbol} {gs : List Bool} {b : Bool} {qs : List Regex} → InBranch us gs b qs → rs ≡ posts qs
      → Same (kept.next_branch (kp [] rs gs b 0 m)) (steps.next_branch (st [] qs gs b 0 l))
  bars (in_branch no_outer br p) e = record { rows = nothing_rows rs _ e; members = refl; control = refl }
  bars (in_branch (reads.in_group o before inside) br p) e = record { rows = nothing_rows rs _ e; members = refl; control = refl }
  bars (in_branch {a} (after_bar {rs = qs} {x} o ex inside) br p) e =
      record { rows = nothing_rows (rs ++ either_row ∷ []) _ (either_rows rs a x qs e); members = refl; control = refl }

  closes : (gs : List Bool) {us : List Symbol} {b : Bool} {qs : List Regex} → InBranch us gs b qs → rs ≡ posts qs
      → Follows (kept.closed_in gs (kp [] rs gs b 0 m)) (steps.closed_in gs (st [] qs gs b 0 l))
  unfolding steps.closed_in
  closes [] br e = tt
  closes (c ∷ gs) (in_branch (reads.in_group o before inside) br p) e = record { rows = e; members = refl; control = refl }
  closes (c ∷ gs) (in_branch {a} (after_bar {rs = qs} {x} o ex inside) br p) e = record { rows = either_rows rs a x qs e; members = refl; control = refl }

  signs : (c : ℕ) {us : List Symbol} {gs : List Bool} {b : Bool} {qs : List Regex} → InBranch us gs b qs → rs ≡ posts qs
      → Follows (kept.sign c (kp [] rs gs b 0 m)) (steps.sign (st [] qs gs b 0 l) c)
  unfolding steps.sign
  signs c {gs} {b} {qs} br e =
      on_test (c == 0x28) _ _ _ _ (record { rows = nothing_rows rs qs e; members = refl; control = refl })
      (on_test (c == 0x29) _ _ _ _ (closes gs br e)
      (on_test (c == 0x7C) _ _ _ _ (bars br e)
      (on_test (c == 0x5B) _ _ _ _ (record { rows = e; members = opened; control = refl })
      (on_test (c == 0x2E) _ _ _ _ (new_atom _ m l rs qs gs b e) tt))))

  pieces : (u : Symbol) {us : List Symbol} {gs : List Bool} {b : Bool} {qs : List Regex} → InBranch us gs b qs → rs ≡ posts qs
      → Follows (kept.piece u (kp [] rs gs b 0 m)) (steps.piece (st [] qs gs b 0 l) u)
  unfolding steps.piece
  pieces (escaped c) {gs} {b} {qs} br e = new_atom (only_char c) m l rs qs gs b e
  pieces (class k) {gs} {b} {qs} br e = new_atom k m l rs qs gs b e
  pieces (char c) {gs} {b} {qs} br e = on_test (is_meta c) _ _ _ _ (signs c br e) (new_atom (only_char c) m l rs qs gs b e)

-- ---- behind an atom

module _ (m l : RegexMode) (rs : List Row) where
  often : (n : ℕ) (o : Option ℕ) {us : List Symbol} {gs : List Bool} {b : Bool} {qs : List Regex} → AtAtom us gs b qs → rs ≡ posts qs
      → Same (kept.quantified n o (kp [] rs gs b 0 m)) (steps.quantified n o (st [] qs gs b 0 l))
  often n o (at_atom {x} (in_branch {rs = qs} {a} out br p) at q) e =
      record { rows = both_rows (rs ++ times_row n o ∷ []) (times n o x) a qs (times_rows n o rs x (a ∷ qs) e); members = refl; control = refl }

  quantifiers : (c : ℕ) {us : List Symbol} {gs : List Bool} {b : Bool} {qs : List Regex} → AtAtom us gs b qs → rs ≡ posts qs
      → Follows (kept.quantifier c (kp [] rs gs b 0 m)) (steps.quantifier (st [] qs gs b 0 l) c)
  unfolding steps.quantifier
  quantifiers c at e =
      on_test (c == 0x3F) _ _ _ _ (often 0 (Some 1) at e)
      (on_test (c == 0x2A) _ _ _ _ (often 0 None at e) (on_test (c == 0x2B) _ _ _ _ (often 1 None at e) (record { rows = e; members = refl; control = refl })))

  joined_piece : (u : Symbol) {us : List Symbol} {gs : List Bool} {b : Bool} {qs : List Regex} → AtAtom us gs b qs → rs ≡ posts qs
      → Follows (kept.piece u (kept.joined (kp [] rs gs b 0 m))) (steps.piece (steps.joined (st [] qs gs b 0 l)) u)
  joined_piece u (at_atom {x} (in_branch {rs = qs} {a} out br p) at q) e =
      pieces mode.Ready mode.Ready (rs ++ both_row ∷ []) u (settled (at_atom (in_branch out br p) at q)) (both_rows rs x a qs e)

  atoms : (u : Symbol) {us : List Symbol} {gs : List Bool} {b : Bool} {qs : List Regex} → AtAtom us gs b qs → rs ≡ posts qs
      → Follows (kept.behind_atom u (kp [] rs gs b 0 m)) (steps.behind_atom (st [] qs gs b 0 l) u)
  unfolding steps.behind_atom
  atoms (escaped c) at e = joined_piece (escaped c) at e
  atoms (class k) at e = joined_piece (class k) at e
  atoms (char c) at e = on_test (opens_quantifier c) _ _ _ _ (quantifiers c at e) (joined_piece (char c) at e)

  -- ---- counts

  behind_leasts : (o : Option ℕ) (c : ℕ) {us : List Symbol} {gs : List Bool} {b : Bool} {qs : List Regex} → AtAtom us gs b qs → rs ≡ posts qs
      → Follows (kept.behind_least o c (kp [] rs gs b 0 m)) (steps.behind_least o (st [] qs gs b 0 l) c)
  unfolding steps.behind_least
  behind_leasts None c at e = tt
  behind_leasts (Some n) c at e =
      on_test (c == 0x2C) _ _ _ _ (record { rows = e; members = refl; control = refl }) (on_test (c == 0x7D) _ _ _ _ (often n (Some n) at e) tt)

  limits : (n : ℕ) (o : Option ℕ) {us : List Symbol} {gs : List Bool} {b : Bool} {qs : List Regex} → AtAtom us gs b qs → rs ≡ posts qs
      → Follows (kept.limited n o (kp [] rs gs b 0 m)) (steps.limited n o (st [] qs gs b 0 l))
  limits n None at e = often n None at e
  limits n (Some k) at e = on_test (nat_le n k) _ _ _ _ (often n (Some k) at e) tt

  digit_read : (o : Option ℕ) (to : ℕ → RegexMode) (gs : List Bool) (b : Bool) (qs : List Regex) → ((n : ℕ) → Means (to n) [] []) → rs ≡ posts qs
      → Follows (option_and_then (λ n. Some (kept.in_mode (to n) (kp [] rs gs b 0 m))) o) (option_and_then (λ n. Some (st [] qs gs b 0 (to n))) o)
  digit_read None to gs b qs h e = tt
  digit_read (Some n) to gs b qs h e = record { rows = e; members = h n; control = refl }

  leasts : (o : Option ℕ) (u : Symbol) {us : List Symbol} {gs : List Bool} {b : Bool} {qs : List Regex} → AtAtom us gs b qs → rs ≡ posts qs
      → Follows (kept.in_least o u (kp [] rs gs b 0 m)) (steps.in_least o (st [] qs gs b 0 l) u)
  unfolding steps.in_least
  leasts o (escaped c) at e = tt
  leasts o (class k) at e = tt
  leasts o (char c) at e =
      on_test (nat_lt (digit_value c) 10) _ _ _ _ (digit_read (steps.with_digit o c) (λ n. mode.Least (Some n)) _ _ _ (λ n. refl) e) (behind_leasts o c at e)

  mosts : (n : ℕ) (o : Option ℕ) (u : Symbol) {us : List Symbol} {gs : List Bool} {b : Bool} {qs : List Regex} → AtAtom us gs b qs → rs ≡ posts qs
      → Follows (kept.in_most n o u (kp [] rs gs b 0 m)) (steps.in_most n o (st [] qs gs b 0 l) u)
  unfolding steps.in_most steps.behind_most
  mosts n o (escaped c) at e = tt
  mosts n o (class k) at e = tt
  mosts n o (char c) at e =
      on_test (nat_lt (digit_value c) 10) _ _ _ _ (digit_read (steps.with_digit o c) (λ k. mode.Most n (Some k)) _ _ _ (λ k. refl) e)
      (on_test (c == 0x7D) _ _ _ _ (limits n o at e) tt)

-- ---- in a class

with_leaf : {ks : List Class} (ms : List Mark) (k c : Class) → Within ms k ks → Within (ms ++ member c ∷ []) (either_class k c) ks
unfolding class_with
with_leaf ms k c w =
    record { goes = λ n rest. w.goes (member c) (n ∷ rest) ∙ ap class_of_marks (sym (append_assoc ms (member c ∷ []) (n ∷ rest))) }

-- the class that is written so far ends
ends_with : {ks : List Class} (neg : Bool) (ms : List Mark) (k : Class) → Within ms k ks
    → all_minus (negated_if neg k) ks ≡ class_of_marks (ms ++ ends neg ∷ [])
unfolding class_with
ends_with neg ms k w = w.goes (ends neg) []

goes_inside : {ks : List Class} (neg : Bool) (ms : List Mark) (k : Class) → Within ms k ks → Within (ms ++ ends neg ∷ []) no_char (negated_if neg k ∷ ks)
unfolding class_with all_minus
goes_inside neg ms k w =
    record { goes = λ n rest. w.goes (ends neg) (n ∷ rest) ∙ ap class_of_marks (sym (append_assoc ms (ends neg ∷ []) (n ∷ rest))) }

module _ (gs : List Bool) (b : Bool) (qs : List Regex) {vs : List Symbol} {d : ℕ} {ks : List Class} (cl : InClass vs d ks) (rs : List Row)
    (e : rs ≡ posts qs) (m l : RegexMode) where
  ended : (n : RegexMode) (ms : List Mark) (k : Class) → all_minus k ks ≡ class_of_marks ms
      → Same (kept.ended_at d (kp ms rs gs b d m)) (machine.ended_at d (st (k ∷ ks) qs gs b d n))
  unfolding machine.ended_at all_minus
  ended n ms k w = ended_by ms k cl w
    where
      ended_by : (ms : List Mark) (k : Class) {vs : List Symbol} {d : ℕ} {ks : List Class} → InClass vs d ks → all_minus k ks ≡ class_of_marks ms
          → Same (kept.ended_at d (kp ms rs gs b d m)) (machine.ended_at d (st (k ∷ ks) qs gs b d n))
      ended_by ms k outermost w =
          record { rows = ap (λ c. rs ++ class_row c ∷ []) (sym w) ∙ class_rows k rs qs e; members = refl; control = refl }
      ended_by ms k (inner outer pl parts) w = record { rows = e; members = w; control = refl }

  group_ends : (neg : Bool) (ms : List Mark) (k : Class) → Within ms k ks
      → Same (kept.end_group neg (kp ms rs gs b d m)) (machine.end_group neg (st (k ∷ ks) qs gs b d l))
  group_ends true ms k w = ended mode.Closed (ms ++ ends true ∷ []) (complement k) (ends_with true ms k w)
  group_ends false ms k w = ended mode.Closed (ms ++ ends false ∷ []) k (ends_with false ms k w)

  subtracts : (neg : Bool) (ms : List Mark) (k : Class) → Within ms k ks
      → Same (kept.subtracted neg (kp ms rs gs b d m)) (machine.subtracted neg (st (k ∷ ks) qs gs b d l))
  unfolding machine.subtracted
  subtracts true ms k w = record { rows = e; members = goes_inside true ms k w; control = refl }
  subtracts false ms k w = record { rows = e; members = goes_inside false ms k w; control = refl }

  -- ---- the next symbol of a group

  at_place : (neg : Bool) (p : ClassPlace) (ms : List Mark) (k : Class) → Within ms k ks
      → Same (kp ms rs gs b d (mode.Group neg p)) (st (k ∷ ks) qs gs b d (mode.Group neg p))
  at_place neg p ms k w = record { rows = e; members = w; control = refl }

  dashes : (neg : Bool) (u : Symbol) (ms : List Mark) (k : Class) → Within ms k ks
      → Follows (kept.behind_dash neg u (kp ms rs gs b d m)) (machine.behind_dash neg (st (k ∷ ks) qs gs b d l) u)
  unfolding machine.behind_dash
  dashes neg (escaped c) ms k w = tt
  dashes neg (class x) ms k w = tt
  dashes neg (char c) ms k w =
      on_test (c == 0x5D) _ _ _ _ (group_ends neg (ms ++ member dash ∷ []) (either_class k dash) (with_leaf ms k dash w))
      (on_test (c == 0x5B) _ _ _ _ (subtracts neg ms k w)
      (on_test (c == 0x2D) _ _ _ _ (at_place neg place.Last (ms ++ member dash ∷ []) (either_class k dash) (with_leaf ms k dash w)) tt))

  lasts : (neg : Bool) (u : Symbol) (ms : List Mark) (k : Class) → Within ms k ks
      → Follows (kept.behind_last neg u (kp ms rs gs b d m)) (machine.behind_last neg (st (k ∷ ks) qs gs b d l) u)
  unfolding machine.behind_last
  lasts neg (escaped c) ms k w = tt
  lasts neg (class x) ms k w = tt
  lasts neg (char c) ms k w = on_test (c == 0x5B) _ _ _ _ (subtracts neg ms k w) tt

  members : (neg : Bool) (u : Symbol) (ms : List Mark) (k : Class) → Within ms k ks
      → Follows (kept.behind_member neg u (kp ms rs gs b d m)) (machine.behind_member neg (st (k ∷ ks) qs gs b d l) u)
  unfolding machine.behind_member
  members neg (escaped c) ms k w = at_place neg (place.Char c) ms k w
  members neg (class x) ms k w = at_place neg place.Member (ms ++ member x ∷ []) (either_class k x) (with_leaf ms k x w)
  members neg (char c) ms k w =
      on_test (is_end c) _ _ _ _ (at_place neg (place.Char c) ms k w)
      (on_test (c == 0x5D) _ _ _ _ (group_ends neg ms k w) (on_test (c == 0x2D) _ _ _ _ (at_place neg place.Dash ms k w) tt))

  firsts : (neg : Bool) (u : Symbol) (ms : List Mark) (k : Class) → Within ms k ks
      → Follows (kept.behind_first neg u (kp ms rs gs b d m)) (machine.behind_first neg (st (k ∷ ks) qs gs b d l) u)
  unfolding machine.behind_first
  firsts neg (escaped c) ms k w = at_place neg (place.Char c) ms k w
  firsts neg (class x) ms k w = at_place neg place.Member (ms ++ member x ∷ []) (either_class k x) (with_leaf ms k x w)
  firsts neg (char c) ms k w =
      on_test (is_end c) _ _ _ _ (at_place neg (place.Char c) ms k w)
      (on_test (c == 0x2D) _ _ _ _ (at_place neg place.Member (ms ++ member dash ∷ []) (either_class k dash) (with_leaf ms k dash w)) tt)

  ranges_end : (neg : Bool) (a c : ℕ) (ms : List Mark) (k : Class) → Within ms k ks
      → Follows (kept.ended_range neg a c (kp ms rs gs b d m)) (machine.ended_range neg a c (st (k ∷ ks) qs gs b d l))
  ranges_end neg a c ms k w =
      on_test (nat_le a c) _ _ _ _
      (at_place neg place.Member (ms ++ member (char_from_to a c) ∷ []) (either_class k (char_from_to a c)) (with_leaf ms k (char_from_to a c) w)) tt

  closed_ends : (u : Symbol) (ms : List Mark) (k : Class) → all_minus k ks ≡ class_of_marks ms
      → Follows (kept.behind_closed u (kp ms rs gs b d m)) (machine.behind_closed (st (k ∷ ks) qs gs b d l) u)
  unfolding machine.behind_closed
  closed_ends (escaped c) ms k w = tt
  closed_ends (class x) ms k w = tt
  closed_ends (char c) ms k w = on_test (c == 0x5D) _ _ _ _ (ended l ms k w) tt

module _ (gs : List Bool) (b : Bool) (qs : List Regex) {vs : List Symbol} {d : ℕ} {ks : List Class} (cl : InClass vs d ks) (rs : List Row)
    (e : rs ≡ posts qs) (m l : RegexMode) where
  chars : (neg : Bool) (a : ℕ) (u : Symbol) (ms : List Mark) (k : Class) → Within ms k ks
      → Follows (kept.behind_char neg a u (kp ms rs gs b d m)) (machine.behind_char neg a (st (k ∷ ks) qs gs b d l) u)
  unfolding machine.behind_char
  chars neg a (escaped c) ms k w =
      members _ _ _ cl rs e m (mode.Group neg place.Member) neg (escaped c) (ms ++ member (only_char a) ∷ []) (either_class k (only_char a))
      (with_leaf ms k (only_char a) w)
  chars neg a (class x) ms k w =
      members _ _ _ cl rs e m (mode.Group neg place.Member) neg (class x) (ms ++ member (only_char a) ∷ []) (either_class k (only_char a))
      (with_leaf ms k (only_char a) w)
  chars neg a (char c) ms k w =
      on_test (c == 0x2D) _ _ _ _ (at_place _ _ _ cl rs e m l neg (place.Range a) ms k w)
      (members _ _ _ cl rs e m (mode.Group neg place.Member) neg (char c) (ms ++ member (only_char a) ∷ []) (either_class k (only_char a))
      (with_leaf ms k (only_char a) w))

  ranges : (neg : Bool) (a : ℕ) (u : Symbol) (ms : List Mark) (k : Class) → Within ms k ks
      → Follows (kept.behind_range neg a u (kp ms rs gs b d m)) (machine.behind_range neg a (st (k ∷ ks) qs gs b d l) u)
  unfolding machine.behind_range
  ranges neg a (escaped c) ms k w = ranges_end _ _ _ cl rs e m l neg a c ms k w
  ranges neg a (class x) ms k w = tt
  ranges neg a (char c) ms k w =
      on_test (is_end c) _ _ _ _ (ranges_end _ _ _ cl rs e m l neg a c ms k w)
      (dashes _ _ _ cl rs e m (mode.Group neg place.Dash) neg (char c) (ms ++ member (only_char a) ∷ []) (either_class k (only_char a))
      (with_leaf ms k (only_char a) w))

  groups : (neg : Bool) (p : ClassPlace) (u : Symbol) (ms : List Mark) (k : Class) → Within ms k ks
      → Follows (kept.in_group neg p u (kp ms rs gs b d m)) (machine.in_group neg p (st (k ∷ ks) qs gs b d l) u)
  groups neg place.First u ms k w = firsts _ _ _ cl rs e m l neg u ms k w
  groups neg place.Member u ms k w = members _ _ _ cl rs e m l neg u ms k w
  groups neg (place.Char a) u ms k w = chars neg a u ms k w
  groups neg (place.Range a) u ms k w = ranges neg a u ms k w
  groups neg place.Dash u ms k w = dashes _ _ _ cl rs e m l neg u ms k w
  groups neg place.Last u ms k w = lasts _ _ _ cl rs e m l neg u ms k w

  opens : (u : Symbol) (ms : List Mark) (k : Class) → Within ms k ks
      → Follows (kept.behind_open u (kp ms rs gs b d m)) (machine.behind_open (st (k ∷ ks) qs gs b d l) u)
  unfolding machine.behind_open
  opens (escaped c) ms k w = firsts _ _ _ cl rs e m l false (escaped c) ms k w
  opens (class x) ms k w = firsts _ _ _ cl rs e m l false (class x) ms k w
  opens (char c) ms k w = on_test (c == 0x5E) _ _ _ _ (at_place _ _ _ cl rs e m l true place.First ms k w) (firsts _ _ _ cl rs e m l false (char c) ms k w)

-- ---- all steps

steps_follow : (u : Symbol) (ms : List Mark) (rs : List Row) {us : List Symbol} {ks : List Class} {qs : List Regex} {gs : List Bool} {b : Bool}
    {d : ℕ} {m : RegexMode} → Reads us ks qs gs b d m → rs ≡ posts qs → Means m ms ks
    → Follows (kept.step_in m u (kp ms rs gs b d m)) (steps.step (st ks qs gs b d m) u)
steps_follow u ms rs (ready br) e n = rw n (pieces mode.Ready mode.Ready rs u br e)
steps_follow u ms rs (atom at) e n = rw n (atoms mode.Atom mode.Atom rs u at e)
steps_follow u ms rs (least {o} at is parts) e n = rw n (leasts (mode.Least o) (mode.Least o) rs o u at e)
steps_follow u ms rs (most {n} {o} at first is parts) e r = rw r (mosts (mode.Most n o) (mode.Most n o) rs n o u at e)
steps_follow u ms rs (open_class br cl parts) e w = opens _ _ _ cl rs e mode.Open mode.Open u ms no_char w
steps_follow u ms rs (in_class {neg} {p} {k} br cl g parts) e w = groups _ _ _ cl rs e (mode.Group neg p) (mode.Group neg p) neg p u ms k w
steps_follow u ms rs (closed {k} br cl is parts) e w = closed_ends _ _ _ cl rs e mode.Closed mode.Closed u ms k w

pub follows : (us : List Symbol) (u : Symbol) (w : Kept) (s : State) → ReadsTo us s → Same w s → Follows (kept.step_in w.mode u w) (steps.step s u)
follows us u w s is same =
    subst (λ v. Follows (kept.step_in v.mode u v) (steps.step s u)) (sym same.control) (steps_follow u w.members w.rows is same.rows same.members)

-- ---- the end of the text

module _ (m l : RegexMode) (rs : List Row) where
  wholes : (gs : List Bool) {us : List Symbol} {b : Bool} {qs : List Regex} → InBranch us gs b qs → rs ≡ posts qs
      → IsWhole (kept.whole_in gs (kp [] rs gs b 0 m)) (steps.whole_in gs (st [] qs gs b 0 l))
  wholes (c ∷ gs) br e = tt
  wholes [] (in_branch {a} no_outer br p) e = e ∙ alone a
  wholes [] (in_branch {a} (after_bar {x} no_outer ex inside) br p) e = either_rows rs a x [] e ∙ alone (either x a)

ends_follow : (ms : List Mark) (rs : List Row) {us : List Symbol} {ks : List Class} {qs : List Regex} {gs : List Bool} {b : Bool} {d : ℕ} {m : RegexMode}
    → Reads us ks qs gs b d m → rs ≡ posts qs → Means m ms ks
    → IsWhole (kept.finished_in m (kp ms rs gs b d m)) (steps.finished (st ks qs gs b d m))
ends_follow ms rs (ready {gs} br) e n = rw n (wholes mode.Ready mode.Ready rs gs br e)
ends_follow ms rs (atom {gs} (at_atom {x} (in_branch {rs = qs} {a} out br p) at q)) e n =
    rw n (wholes mode.Ready mode.Ready (rs ++ both_row ∷ []) gs (settled (at_atom (in_branch out br p) at q)) (both_rows rs x a qs e))
ends_follow ms rs (least at is parts) e n = tt
ends_follow ms rs (most at first is parts) e n = tt
ends_follow ms rs (open_class br cl parts) e n = tt
ends_follow ms rs (in_class br cl g parts) e n = tt
ends_follow ms rs (closed br cl is parts) e n = tt

pub ends_whole : (us : List Symbol) (w : Kept) (s : State) → ReadsTo us s → Same w s → IsWhole (kept.finished_in w.mode w) (steps.finished s)
ends_whole us w s is same =
    subst (λ v. IsWhole (kept.finished_in v.mode v) (steps.finished s)) (sym same.control) (ends_follow w.members w.rows is same.rows same.members)

-- Every class in brackets is read as what it means.
use Rattle.std.proofs.Common.{◌≡◌, ◌∙◌, ◌≤◌, ℕ, suc, List, [], ◌∷◌, ◌++◌, codes, Bool, true, false, cond, not, ◌==◌, ◌||◌}
use Rattle.std.proofs.Common.{refl, sym, ap, true≢false, eqb-true, le-leb}
use Rattle.std.specs.List.{list_any}
use Rattle.std.proofs.lemmas.List.{append_assoc}
use Rattle.rng_model.specs.declared.regex_mode.RegexMode.{RegexMode}
use Rattle.rng_model.specs.declared.regex_mode.RegexMode.TheVariants as mode
use Rattle.rng_model.specs.declared.regex_mode.ClassPlace.{ClassPlace}
use Rattle.rng_model.specs.declared.regex_mode.ClassPlace.TheVariants as place
use Rattle.rng_model.specs.regexes.Expressions.{Class, no_char, only_char, char_from_to, either_class, complement, minus, Regex}
use Rattle.rng_model.specs.regexes.Symbols.{Symbol, char, escaped, class}
use Rattle.rng_model.specs.regexes.ExpressionGrammar.{IsEnd, plain_end, escaped_end, IsMember, range, one_char, class_escape}
use Rattle.rng_model.specs.regexes.ExpressionGrammar.{AreMembers, first_member, first_dash, member_and, IsPositive, members, last_dash, begins_with_caret}
use Rattle.rng_model.specs.regexes.ExpressionGrammar.{IsPlainGroup, positive, negative, IsGroup, plain, without, bracketed}
use Rattle.rng_model.specs.regexes.plain.ClassSteps.{State, is_end, is_caret, dash, ended_at}
use Rattle.rng_model.specs.regexes.plain.Machine.{run}
use Rattle.rng_model.specs.regexes.plain.ClassSteps.{behind_dash, behind_last, behind_member, behind_first, behind_char, behind_range, behind_open}
use Rattle.rng_model.specs.regexes.plain.ClassSteps.{behind_closed, subtracted}

-- a state by its parts
abbrev pub st : List Class → List Regex → List Bool → Bool → ℕ → RegexMode → State
st ks rs gs b d m = record { held = record { classes = ks; regexes = rs }; groups = gs; alternative = b; depth = d; mode = m }

-- ---- what may follow a character that begins no range

-- the members end with these symbols
abbrev ends_members : List Symbol → Bool
ends_members [] = true
ends_members (char c ∷ us) = not (is_end c)
ends_members (escaped c ∷ us) = false
ends_members (class k ∷ us) = false

abbrev no_range : List Symbol → Bool
no_range [] = true
no_range (char c ∷ us) = cond (c == 0x2D) (ends_members us) true
no_range (escaped c ∷ us) = true
no_range (class k ∷ us) = true

not_dash : (c : ℕ) → list_any (λ m. c == m) (codes "\\-[]") ≡ false → (c == 0x2D) ≡ false
not_dash c e = by (c == 0x5C) (c == 0x2D) refl refl e
  where
    by : (a b : Bool) → (c == 0x5C) ≡ a → (c == 0x2D) ≡ b → (a || (b || list_any (λ m. c == m) (codes "[]"))) ≡ false → (c == 0x2D) ≡ false
    by true b p q h = absurd (true≢false h)
    by false true p q h = absurd (true≢false h)
    by false false p q h = q

end_no_range : (u : Symbol) (c : ℕ) (us : List Symbol) → IsEnd u c → no_range (u ∷ us) ≡ true
end_no_range _ _ us (plain_end {c} e) = rw (not_dash c e) refl
end_no_range _ _ us escaped_end = refl

member_no_range : (vs : List Symbol) (k : Class) (rest : List Symbol) → IsMember vs k → no_range (vs ++ rest) ≡ true
member_no_range _ _ rest (range {u} {v} {low} {high} p q le) = end_no_range u low _ p
member_no_range _ _ rest (one_char {u} {c} p) = end_no_range u c _ p
member_no_range _ _ rest class_escape = refl

-- ---- members

module _ (rs : List Regex) (gs : List Bool) (b : Bool) (neg : Bool) where
  abbrev at_place : ℕ → List Class → ClassPlace → State
  at_place d ks p = st ks rs gs b d (mode.Group neg p)

  -- where the next member may begin
  data IsStart : ClassPlace → Type 0 where
    at_first : IsStart place.First
    at_member : IsStart place.Member

  starts : (d : ℕ) (ks : List Class) (p : ClassPlace) (u : Symbol) (c : ℕ) (us : List Symbol) → IsStart p → IsEnd u c
      → run (at_place d ks p) (u ∷ us) ≡ run (at_place d ks (place.Char c)) us
  unfolding run behind_first behind_member
  starts d ks _ _ _ us at_first (plain_end {c} e) = rw e refl
  starts d ks _ _ _ us at_member (plain_end {c} e) = rw e refl
  starts d ks _ _ _ us at_first escaped_end = refl
  starts d ks _ _ _ us at_member escaped_end = refl

  -- a character that begins no range is a member
  ends_alone : (d : ℕ) (k : Class) (ks : List Class) (c : ℕ) (us : List Symbol) → ends_members us ≡ true
      → run (at_place d (k ∷ ks) (place.Range c)) us ≡ run (at_place d (either_class k (only_char c) ∷ ks) place.Dash) us
  unfolding run behind_range behind_dash
  ends_alone d k ks c [] e = refl
  ends_alone d k ks c (char x ∷ us) e = by (is_end x) refl e
    where
      by : (a : Bool) → is_end x ≡ a → not a ≡ true
          → run (at_place d (k ∷ ks) (place.Range c)) (char x ∷ us) ≡ run (at_place d (either_class k (only_char c) ∷ ks) place.Dash) (char x ∷ us)
      by true p q = cc
      by false p q = rw p refl
  ends_alone d k ks c (escaped x ∷ us) e = cc
  ends_alone d k ks c (class l ∷ us) e = cc

  alone : (d : ℕ) (k : Class) (ks : List Class) (c : ℕ) (us : List Symbol) → no_range us ≡ true
      → run (at_place d (k ∷ ks) (place.Char c)) us ≡ run (at_place d (either_class k (only_char c) ∷ ks) place.Member) us
  unfolding run behind_char behind_member
  alone d k ks c [] e = refl
  alone d k ks c (char x ∷ us) e = by (x == 0x2D) refl e
    where
      by : (a : Bool) → (x == 0x2D) ≡ a → cond a (ends_members us) true ≡ true
          → run (at_place d (k ∷ ks) (place.Char c)) (char x ∷ us) ≡ run (at_place d (either_class k (only_char c) ∷ ks) place.Member) (char x ∷ us)
      by true p q = rw (eqb-true x 0x2D p) (ends_alone d k ks c us q)
      by false p q = rw p refl
  alone d k ks c (escaped x ∷ us) e = refl
  alone d k ks c (class l ∷ us) e = refl

  second_end : (d : ℕ) (k : Class) (ks : List Class) (low : ℕ) (v : Symbol) (high : ℕ) (us : List Symbol) → IsEnd v high → low ≤ high
      → run (at_place d (k ∷ ks) (place.Range low)) (v ∷ us) ≡ run (at_place d (either_class k (char_from_to low high) ∷ ks) place.Member) us
  unfolding run behind_range
  second_end d k ks low _ _ us (plain_end {c} e) le = rw (e, le-leb low c le) refl
  second_end d k ks low _ _ us (escaped_end {c}) le = rw (le-leb low c le) refl

  to_dash : (d : ℕ) (ks : List Class) (c : ℕ) (us : List Symbol)
      → run (at_place d ks (place.Char c)) (char 0x2D ∷ us) ≡ run (at_place d ks (place.Range c)) us
  unfolding run behind_char
  to_dash d ks c us = refl

  class_read : (d : ℕ) (k : Class) (ks : List Class) (p : ClassPlace) (l : Class) (us : List Symbol) → IsStart p
      → run (at_place d (k ∷ ks) p) (class l ∷ us) ≡ run (at_place d (either_class k l ∷ ks) place.Member) us
  unfolding run behind_first behind_member
  class_read d k ks _ l us at_first = refl
  class_read d k ks _ l us at_member = refl

  member_read : (d : ℕ) (k : Class) (ks : List Class) (p : ClassPlace) (vs : List Symbol) (l : Class) (us : List Symbol) → IsStart p → IsMember vs l
      → no_range us ≡ true → run (at_place d (k ∷ ks) p) (vs ++ us) ≡ run (at_place d (either_class k l ∷ ks) place.Member) us
  member_read d k ks p _ _ us s (range {u} {v} {low} {high} first last le) e =
      starts d (k ∷ ks) p u low (char 0x2D ∷ v ∷ us) s first ∙ to_dash d (k ∷ ks) low (v ∷ us) ∙ second_end d k ks low v high us last le
  member_read d k ks p _ _ us s (one_char {u} {c} is) e = starts d (k ∷ ks) p u c us s is ∙ alone d k ks c us e
  member_read d k ks p _ l us s class_escape e = class_read d k ks p l us s

  dash_read : (d : ℕ) (ks : List Class) (us : List Symbol)
      → run (at_place d (no_char ∷ ks) place.First) (char 0x2D ∷ us) ≡ run (at_place d (either_class no_char dash ∷ ks) place.Member) us
  unfolding run behind_first
  dash_read d ks us = refl

  members_read : (d : ℕ) (ks : List Class) (vs : List Symbol) (k : Class) (us : List Symbol) → AreMembers vs k → no_range us ≡ true
      → run (at_place d (no_char ∷ ks) place.First) (vs ++ us) ≡ run (at_place d (k ∷ ks) place.Member) us
  members_read d ks vs _ us (first_member {k} is) e = member_read d no_char ks place.First vs k us at_first is e
  members_read d ks _ _ us first_dash e = dash_read d ks us
  members_read d ks _ _ us (member_and {us = vs} {vs = ws} {k} {l} more is parts) e =
      ap (λ x. run (at_place d (no_char ∷ ks) place.First) (x ++ us)) parts ∙ ap (run (at_place d (no_char ∷ ks) place.First)) (append_assoc vs ws us)
      ∙ members_read d ks vs k (ws ++ us) more (member_no_range ws l us is) ∙ member_read d k ks place.Member ws l us at_member is e

  -- ---- a positive group, and what ends it

  abbrev negated : Class → Class
  negated k = cond neg (complement k) k

  close_member : (d : ℕ) (k : Class) (ks : List Class) (us : List Symbol)
      → run (at_place d (k ∷ ks) place.Member) (char 0x5D ∷ us) ≡ run (ended_at d (st (negated k ∷ ks) rs gs b d mode.Closed)) us
  unfolding run behind_member
  close_member d k ks us = by neg refl
    where
      by : (n : Bool) → neg ≡ n → run (at_place d (k ∷ ks) place.Member) (char 0x5D ∷ us) ≡ run (ended_at d (st (negated k ∷ ks) rs gs b d mode.Closed)) us
      by true e = rw e refl
      by false e = rw e refl

  close_dash : (d : ℕ) (k : Class) (ks : List Class) (us : List Symbol)
      → run (at_place d (k ∷ ks) place.Member) (char 0x2D ∷ char 0x5D ∷ us)
      ≡ run (ended_at d (st (negated (either_class k dash) ∷ ks) rs gs b d mode.Closed)) us
  unfolding run behind_member behind_dash
  close_dash d k ks us = by neg refl
    where
      by : (n : Bool) → neg ≡ n
          → run (at_place d (k ∷ ks) place.Member) (char 0x2D ∷ char 0x5D ∷ us)
          ≡ run (ended_at d (st (negated (either_class k dash) ∷ ks) rs gs b d mode.Closed)) us
      by true e = rw e refl
      by false e = rw e refl

  subtract_member : (d : ℕ) (k : Class) (ks : List Class) (us : List Symbol)
      → run (at_place d (k ∷ ks) place.Member) (char 0x2D ∷ char 0x5B ∷ us) ≡ run (st (no_char ∷ negated k ∷ ks) rs gs b (suc d) mode.Open) us
  unfolding run behind_member behind_dash subtracted
  subtract_member d k ks us = by neg refl
    where
      by : (n : Bool) → neg ≡ n
          → run (at_place d (k ∷ ks) place.Member) (char 0x2D ∷ char 0x5B ∷ us) ≡ run (st (no_char ∷ negated k ∷ ks) rs gs b (suc d) mode.Open) us
      by true e = rw e refl
      by false e = rw e refl

  subtract_dash : (d : ℕ) (k : Class) (ks : List Class) (us : List Symbol)
      → run (at_place d (k ∷ ks) place.Member) (char 0x2D ∷ char 0x2D ∷ char 0x5B ∷ us)
      ≡ run (st (no_char ∷ negated (either_class k dash) ∷ ks) rs gs b (suc d) mode.Open) us
  unfolding run behind_member behind_dash behind_last subtracted
  subtract_dash d k ks us = by neg refl
    where
      by : (n : Bool) → neg ≡ n
          → run (at_place d (k ∷ ks) place.Member) (char 0x2D ∷ char 0x2D ∷ char 0x5B ∷ us)
          ≡ run (st (no_char ∷ negated (either_class k dash) ∷ ks) rs gs b (suc d) mode.Open) us
      by true e = rw e refl
      by false e = rw e refl

  positive_closed : (d : ℕ) (ks : List Class) (vs : List Symbol) (k : Class) (us : List Symbol) → IsPositive vs k
      → run (at_place d (no_char ∷ ks) place.First) (vs ++ char 0x5D ∷ us) ≡ run (ended_at d (st (negated k ∷ ks) rs gs b d mode.Closed)) us
  positive_closed d ks vs k us (members more) = members_read d ks vs k (char 0x5D ∷ us) more refl ∙ close_member d k ks us
  positive_closed d ks _ _ us (last_dash {us = vs} {k} more parts) =
      ap (λ x. run (at_place d (no_char ∷ ks) place.First) (x ++ char 0x5D ∷ us)) parts
      ∙ ap (run (at_place d (no_char ∷ ks) place.First)) (append_assoc vs (char 0x2D ∷ []) (char 0x5D ∷ us))
      ∙ members_read d ks vs k (char 0x2D ∷ char 0x5D ∷ us) more refl ∙ close_dash d k ks us

  positive_subtracted : (d : ℕ) (ks : List Class) (vs : List Symbol) (k : Class) (us : List Symbol) → IsPositive vs k
      → run (at_place d (no_char ∷ ks) place.First) (vs ++ char 0x2D ∷ char 0x5B ∷ us) ≡ run (st (no_char ∷ negated k ∷ ks) rs gs b (suc d) mode.Open) us
  positive_subtracted d ks vs k us (members more) = members_read d ks vs k (char 0x2D ∷ char 0x5B ∷ us) more refl ∙ subtract_member d k ks us
  positive_subtracted d ks _ _ us (last_dash {us = vs} {k} more parts) =
      ap (λ x. run (at_place d (no_char ∷ ks) place.First) (x ++ char 0x2D ∷ char 0x5B ∷ us)) parts
      ∙ ap (run (at_place d (no_char ∷ ks) place.First)) (append_assoc vs (char 0x2D ∷ []) (char 0x2D ∷ char 0x5B ∷ us))
      ∙ members_read d ks vs k (char 0x2D ∷ char 0x2D ∷ char 0x5B ∷ us) more refl ∙ subtract_dash d k ks us

-- ---- the first symbol behind `[`

-- a positive group has a symbol
left_empty : (xs ys : List Symbol) → xs ++ ys ≡ [] → xs ≡ []
left_empty [] ys e = refl
left_empty (x ∷ xs) ys e = cc

dash_there : (xs : List Symbol) → xs ++ char 0x2D ∷ [] ≡ [] → ⊥
dash_there [] e = cc
dash_there (x ∷ xs) e = cc

member_there : (vs : List Symbol) (k : Class) → vs ≡ [] → IsMember vs k → ⊥
member_there _ _ e (range p q le) = cc
member_there _ _ e (one_char p) = cc
member_there _ _ e class_escape = cc

pub members_there : (vs : List Symbol) (k : Class) → vs ≡ [] → AreMembers vs k → ⊥
members_there vs _ e (first_member {k} is) = member_there vs k e is
members_there _ _ e first_dash = cc
members_there _ _ e (member_and {us = vs} {vs = ws} {k} more is parts) = members_there vs k (left_empty vs ws (sym parts ∙ e)) more

never_empty : (vs : List Symbol) (k : Class) → vs ≡ [] → IsPositive vs k → ⊥
never_empty vs k e (members more) = members_there vs k e more
never_empty _ _ e (last_dash {us = vs} {k} more parts) = dash_there vs (sym parts ∙ e)

module _ (rs : List Regex) (gs : List Bool) (b : Bool) where
  open_caret : (d : ℕ) (ks : List Class) (us : List Symbol)
      → run (st ks rs gs b d mode.Open) (char 0x5E ∷ us) ≡ run (st ks rs gs b d (mode.Group true place.First)) us
  unfolding run behind_open
  open_caret d ks us = refl

  -- a positive group has a first symbol, and no `^` alone
  open_other : (d : ℕ) (ks : List Class) (u : Symbol) (us : List Symbol) → is_caret u ≡ false
      → run (st ks rs gs b d mode.Open) (u ∷ us) ≡ run (st ks rs gs b d (mode.Group false place.First)) (u ∷ us)
  unfolding run behind_open behind_first
  open_other d ks (char c) us e = rw e refl
  open_other d ks (escaped c) us e = refl
  open_other d ks (class k) us e = refl

  caret_same : (u : Symbol) (us : List Symbol) → begins_with_caret (u ∷ us) ≡ is_caret u
  caret_same (char c) us = refl
  caret_same (escaped c) us = refl
  caret_same (class k) us = refl

  pub open_positive : (d : ℕ) (ks : List Class) (vs us : List Symbol) (k : Class) → IsPositive vs k → begins_with_caret vs ≡ false
      → run (st ks rs gs b d mode.Open) (vs ++ us) ≡ run (st ks rs gs b d (mode.Group false place.First)) (vs ++ us)
  open_positive d ks [] us k is e = absurd (never_empty [] k refl is)
  open_positive d ks (u ∷ vs) us k is e = open_other d ks u (vs ++ us) (sym (caret_same u vs) ∙ e)

  -- ---- groups

  plain_closed : (d : ℕ) (ks : List Class) (vs : List Symbol) (k : Class) (us : List Symbol) → IsPlainGroup vs k
      → run (st (no_char ∷ ks) rs gs b d mode.Open) (vs ++ char 0x5D ∷ us) ≡ run (ended_at d (st (k ∷ ks) rs gs b d mode.Closed)) us
  plain_closed d ks vs k us (positive is e) = open_positive d (no_char ∷ ks) vs (char 0x5D ∷ us) k is e ∙ positive_closed rs gs b false d ks vs k us is
  plain_closed d ks _ _ us (negative {us = vs} {k} is) = open_caret d (no_char ∷ ks) (vs ++ char 0x5D ∷ us) ∙ positive_closed rs gs b true d ks vs k us is

  plain_subtracted : (d : ℕ) (ks : List Class) (vs : List Symbol) (k : Class) (us : List Symbol) → IsPlainGroup vs k
      → run (st (no_char ∷ ks) rs gs b d mode.Open) (vs ++ char 0x2D ∷ char 0x5B ∷ us) ≡ run (st (no_char ∷ k ∷ ks) rs gs b (suc d) mode.Open) us
  plain_subtracted d ks vs k us (positive is e) =
      open_positive d (no_char ∷ ks) vs (char 0x2D ∷ char 0x5B ∷ us) k is e ∙ positive_subtracted rs gs b false d ks vs k us is
  plain_subtracted d ks _ _ us (negative {us = vs} {k} is) =
      open_caret d (no_char ∷ ks) (vs ++ char 0x2D ∷ char 0x5B ∷ us) ∙ positive_subtracted rs gs b true d ks vs k us is

  outer_closed : (d : ℕ) (k l : Class) (ks : List Class) (us : List Symbol)
      → run (ended_at (suc d) (st (l ∷ k ∷ ks) rs gs b (suc d) mode.Closed)) (char 0x5D ∷ us) ≡ run (ended_at d (st (minus k l ∷ ks) rs gs b d mode.Closed)) us
  unfolding run behind_closed ended_at
  outer_closed d k l ks us = refl

  pub group_read : (d : ℕ) (ks : List Class) (vs : List Symbol) (k : Class) (us : List Symbol) → IsGroup vs k
      → run (st (no_char ∷ ks) rs gs b d mode.Open) (vs ++ char 0x5D ∷ us) ≡ run (ended_at d (st (k ∷ ks) rs gs b d mode.Closed)) us
  group_read d ks vs k us (plain is) = plain_closed d ks vs k us is
  group_read d ks _ _ us (without {us = vs} {k} is (bracketed {us = ws} {k = l} inner outside) parts) =
      ap (λ x. run (st (no_char ∷ ks) rs gs b d mode.Open) (x ++ char 0x5D ∷ us)) (parts ∙ ap (λ x. vs ++ char 0x2D ∷ x) outside)
      ∙ ap (run (st (no_char ∷ ks) rs gs b d mode.Open))
      (append_assoc vs (char 0x2D ∷ char 0x5B ∷ (ws ++ char 0x5D ∷ [])) (char 0x5D ∷ us)
      ∙ ap (λ x. vs ++ char 0x2D ∷ char 0x5B ∷ x) (append_assoc ws (char 0x5D ∷ []) (char 0x5D ∷ us)))
      ∙ plain_subtracted d ks vs k (ws ++ char 0x5D ∷ char 0x5D ∷ us) is
      ∙ group_read (suc d) (k ∷ ks) ws l (char 0x5D ∷ us) inner
      ∙ outer_closed d k l ks us

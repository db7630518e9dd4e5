-- A step in a class reads on.
use Rattle.std.proofs.Common.{◌≡◌, ◌∙◌, ℕ, suc, List, [], ◌∷◌, ◌++◌, Bool, true, false, cond, ◌==◌, nat_le}
use Rattle.std.proofs.Common.{Some, None, refl, sym, ap, subst, eqb-true, leb-true}
use Rattle.std.proofs.lemmas.List.{append_assoc}
use Rattle.rng_model.specs.declared.regex_mode.RegexMode.TheVariants as mode
use Rattle.rng_model.specs.declared.regex_mode.ClassPlace.{ClassPlace}
use Rattle.rng_model.specs.declared.regex_mode.ClassPlace.TheVariants as place
use Rattle.rng_model.specs.regexes.Expressions.{Class, no_char, only_char, char_from_to, either_class, Regex}
use Rattle.rng_model.specs.regexes.Symbols.{Symbol, char, escaped, class}
use Rattle.rng_model.specs.regexes.ExpressionGrammar.{IsEnd, escaped_end, class_escape, AreMembers, first_dash, IsPositive, members, last_dash}
use Rattle.rng_model.specs.regexes.ExpressionGrammar.{IsGroup, plain, without, bracketed, class_group}
use Rattle.rng_model.specs.regexes.plain.ClassSteps.{State, Next, is_end, is_dash, is_caret, dash, ended_at, ended_range, end_group, subtracted, in_group}
use Rattle.rng_model.specs.regexes.plain.ClassSteps.{behind_dash, behind_last, behind_member, behind_first, behind_char, behind_range, behind_open, behind_closed}
use Rattle.xsd_regex.proofs.CompleteClasses.{st, members_there}
use Rattle.xsd_regex.proofs.SoundClasses.{Members, none_yet, some, more_members, Headed, with_caret, headed_more, headed_first}
use Rattle.xsd_regex.proofs.SoundClasses.{negated, plain_group}
use Rattle.xsd_regex.proofs.SoundClasses.{Group, at_first, at_member, at_char, at_range, at_dash, at_last, end_of_char, some_there}
use Rattle.xsd_regex.proofs.SoundClasses.{one_more_char, one_more_range, dash_is, caret_is, InClass, outermost, inner}
use Rattle.xsd_regex.proofs.ReadSymbols.{InBranch, at_atom, atom, open_class, in_class, closed, ReadsTo}

-- what a step goes to, if it goes to this state
abbrev pub Leads : List Symbol → Next → Type 0
Leads us next = (t : State) → next ≡ Some t → ReadsTo us t

pub leads_to : (us : List Symbol) (s : State) → ReadsTo us s → Leads us (Some s)
leads_to us s r t e = let same : s ≡ t = cc in subst (ReadsTo us) same r

pub leads_nowhere : (us : List Symbol) → Leads us None
leads_nowhere us t e = cc

pub by_test : (us : List Symbol) (a : Bool) (x y : Next) → (a ≡ true → Leads us x) → (a ≡ false → Leads us y) → Leads us (cond a x y)
by_test us true x y f g = f refl
by_test us false x y f g = g refl

-- `]` of a class: of one that is subtracted, or of the outermost one
pub ended_reads : {us vs ws all : List Symbol} {gs : List Bool} {b : Bool} {qs : List Regex} {d : ℕ} {ks : List Class} {k : Class}
    → InBranch us gs b qs → InClass vs d ks → IsGroup ws k → all ≡ us ++ (vs ++ (ws ++ char 0x5D ∷ []))
    → ReadsTo all (ended_at d (st (k ∷ ks) qs gs b d mode.Closed))
unfolding ended_at
ended_reads br outermost is parts = atom (at_atom br (class_group (bracketed is refl)) parts)
ended_reads {us} {ws} br (inner {us = vs} {vs = xs} outer pl inside) is parts =
    closed br outer (without pl (bracketed is refl) refl)
    (parts ∙ ap (λ l. us ++ (l ++ (ws ++ char 0x5D ∷ []))) inside
    ∙ ap (λ l. us ++ l) (append_assoc vs (xs ++ char 0x2D ∷ char 0x5B ∷ []) (ws ++ char 0x5D ∷ [])
    ∙ ap (λ l. vs ++ l) (append_assoc xs (char 0x2D ∷ char 0x5B ∷ []) (ws ++ char 0x5D ∷ []))))

module _ {us vs : List Symbol} {gs : List Bool} {b : Bool} {qs : List Regex} {d : ℕ} {ks : List Class} (br : InBranch us gs b qs) (cl : InClass vs d ks) where
  -- the text up to this in the class
  abbrev pub upto : List Symbol → List Symbol
  upto ws = us ++ (vs ++ ws)

  abbrev pub at_place : Bool → Class → ClassPlace → State
  at_place neg k p = st (k ∷ ks) qs gs b d (mode.Group neg p)

  goes_to : (neg : Bool) (ws : List Symbol) (p : ClassPlace) (k : Class) → Group neg p ws k → Leads (upto ws) (Some (at_place neg k p))
  goes_to neg ws p k g = leads_to _ _ (in_class br cl g refl)

  -- `]` behind the members
  closes : (neg : Bool) (ws xs : List Symbol) (k : Class) → Headed neg ws xs → IsPositive xs k
      → ReadsTo (upto (ws ++ char 0x5D ∷ [])) (ended_at d (st (negated neg k ∷ ks) qs gs b d mode.Closed))
  closes neg ws xs k h is = ended_reads br cl (plain (plain_group h is)) refl

  closes_at : (neg : Bool) (k : Class) (p : ClassPlace) (us : List Symbol) → ReadsTo us (ended_at d (st (negated neg k ∷ ks) qs gs b d mode.Closed))
      → ReadsTo us (end_group neg (at_place neg k p))
  closes_at true k p us r = r
  closes_at false k p us r = r

  -- `-[` behind the members
  subtracts : (neg : Bool) (ws xs : List Symbol) (k : Class) → Headed neg ws xs → IsPositive xs k
      → ReadsTo (upto (ws ++ char 0x2D ∷ char 0x5B ∷ [])) (st (no_char ∷ negated neg k ∷ ks) qs gs b (suc d) mode.Open)
  subtracts neg ws xs k h is =
      open_class br (inner {us = vs} {vs = ws} cl (plain_group h is) refl) refl

  subtracts_at : (neg : Bool) (k : Class) (p : ClassPlace) (us : List Symbol) → ReadsTo us (st (no_char ∷ negated neg k ∷ ks) qs gs b (suc d) mode.Open)
      → ReadsTo us (subtracted neg (at_place neg k p))
  unfolding subtracted
  subtracts_at true k p us r = r
  subtracts_at false k p us r = r

  -- the last symbol is this one
  last_is : (ws : List Symbol) (c n : ℕ) (next : Next) → (c == n) ≡ true → Leads (upto (ws ++ char n ∷ [])) next → Leads (upto (ws ++ char c ∷ [])) next
  last_is ws c n next e r = subst (λ x. Leads (upto (ws ++ char x ∷ [])) next) (sym (eqb-true c n e)) r

  -- behind a member
  member_step : (neg : Bool) (ws xs : List Symbol) (k : Class) (u : Symbol) → Headed neg ws xs → AreMembers xs k
      → Leads (upto (ws ++ u ∷ [])) (behind_member neg (at_place neg k place.Member) u)
  unfolding behind_member
  member_step neg ws xs k u h is = by u
    where
      more : (v : Symbol) → Headed neg (ws ++ v ∷ []) (xs ++ v ∷ [])
      more v = headed_more v (λ e. members_there xs k e is) h

      end : Leads (upto (ws ++ char 0x5D ∷ [])) (Some (end_group neg (at_place neg k place.Member)))
      end = leads_to _ _ (closes_at neg k place.Member _ (closes neg ws xs k h (members is)))

      by : (v : Symbol) → Leads (upto (ws ++ v ∷ [])) (behind_member neg (at_place neg k place.Member) v)
      by (escaped c) = goes_to neg _ (place.Char c) k (at_char (more (escaped c)) (some is) escaped_end refl)
      by (class l) = goes_to neg _ place.Member (either_class k l) (at_member (more (class l)) (more_members (class l ∷ []) l (some is) class_escape))
      by (char c) =
          by_test _ (is_end c) _ _ (λ e. goes_to neg _ (place.Char c) k (at_char (more (char c)) (some is) (end_of_char c e) refl))
          (λ e. by_test _ (c == 0x5D) _ _ (λ p. last_is ws c 0x5D _ p end)
          (λ p. by_test _ (c == 0x2D) _ _ (λ q. last_is ws c 0x2D _ q (goes_to neg _ place.Dash k (at_dash h is refl))) (λ q. leads_nowhere _)))

  -- behind a member and `-`
  dash_step : (neg : Bool) (ws xs : List Symbol) (k : Class) (u : Symbol) → Headed neg ws xs → AreMembers xs k
      → Leads (upto ((ws ++ char 0x2D ∷ []) ++ u ∷ [])) (behind_dash neg (at_place neg k place.Dash) u)
  unfolding behind_dash
  dash_step neg ws xs k u h is = by u
    where
      ds : List Symbol
      ds = ws ++ char 0x2D ∷ []

      k' : Class
      k' = either_class k dash

      more : Headed neg ds (xs ++ char 0x2D ∷ [])
      more = headed_more (char 0x2D) (λ e. members_there xs k e is) h

      is_last : IsPositive (xs ++ char 0x2D ∷ []) (either_class k dash)
      is_last = last_dash is refl

      end : Leads (upto (ds ++ char 0x5D ∷ [])) (Some (end_group neg (at_place neg k' place.Dash)))
      end = leads_to _ _ (closes_at neg k' place.Dash _ (closes neg ds (xs ++ char 0x2D ∷ []) k' more is_last))

      minus_is : Leads (upto (ds ++ char 0x5B ∷ [])) (Some (subtracted neg (at_place neg k place.Dash)))
      minus_is =
          subst (λ l. Leads (upto l) (Some (subtracted neg (at_place neg k place.Dash)))) (sym (append_assoc ws (char 0x2D ∷ []) (char 0x5B ∷ [])))
          (leads_to _ _ (subtracts_at neg k place.Dash _ (subtracts neg ws xs k h (members is))))

      by : (v : Symbol) → Leads (upto (ds ++ v ∷ [])) (behind_dash neg (at_place neg k place.Dash) v)
      by (escaped c) = leads_nowhere _
      by (class l) = leads_nowhere _
      by (char c) =
          by_test _ (c == 0x5D) _ _ (λ p. last_is ds c 0x5D _ p end)
          (λ p. by_test _ (c == 0x5B) _ _ (λ q. last_is ds c 0x5B _ q minus_is)
          (λ q. by_test _ (c == 0x2D) _ _ (λ r. last_is ds c 0x2D _ r (goes_to neg _ place.Last k' (at_last more is_last refl))) (λ r. leads_nowhere _)))

  -- behind the last `-` and another one
  last_step : (neg : Bool) (ws xs : List Symbol) (k : Class) (u : Symbol) → Headed neg ws xs → IsPositive xs k
      → Leads (upto ((ws ++ char 0x2D ∷ []) ++ u ∷ [])) (behind_last neg (at_place neg k place.Last) u)
  unfolding behind_last
  last_step neg ws xs k (escaped c) h is = leads_nowhere _
  last_step neg ws xs k (class l) h is = leads_nowhere _
  last_step neg ws xs k (char c) h is =
      by_test _ (c == 0x5B) _ _
      (λ p. last_is (ws ++ char 0x2D ∷ []) c 0x5B _ p
      (subst (λ l. Leads (upto l) (Some (subtracted neg (at_place neg k place.Last)))) (sym (append_assoc ws (char 0x2D ∷ []) (char 0x5B ∷ [])))
      (leads_to _ _ (subtracts_at neg k place.Last _ (subtracts neg ws xs k h is)))))
      (λ p. leads_nowhere _)

  -- behind a character
  char_step : (neg : Bool) (ws xs ys : List Symbol) (v : Symbol) (a : ℕ) (k : Class) (u : Symbol) → Headed neg ws xs → Members ys k → IsEnd v a
      → xs ≡ ys ++ v ∷ [] → Leads (upto (ws ++ u ∷ [])) (behind_char neg a (at_place neg k (place.Char a)) u)
  unfolding behind_char
  char_step neg ws xs ys v a k u h more is parts =
      by_test _ (is_dash u) _ _
      (λ e. subst (λ w. Leads (upto (ws ++ w ∷ [])) (Some (at_place neg k (place.Range a)))) (sym (dash_is u e))
      (goes_to neg _ (place.Range a) k (at_range h more is parts refl)))
      (λ e. member_step neg ws xs (either_class k (only_char a)) u h
      (subst (λ l. AreMembers l (either_class k (only_char a))) (sym parts) (one_more_char v a more is)))

  -- behind a character and `-`
  range_step : (neg : Bool) (ws xs ys : List Symbol) (v : Symbol) (a : ℕ) (k : Class) (u : Symbol) → Headed neg ws xs → Members ys k → IsEnd v a
      → xs ≡ ys ++ v ∷ [] → Leads (upto ((ws ++ char 0x2D ∷ []) ++ u ∷ [])) (behind_range neg a (at_place neg k (place.Range a)) u)
  unfolding behind_range
  range_step neg ws xs ys v a k u h more is parts = by u
    where
      all : (w : Symbol) → (xs ++ char 0x2D ∷ []) ++ w ∷ [] ≡ ys ++ v ∷ char 0x2D ∷ w ∷ []
      all w =
          append_assoc xs (char 0x2D ∷ []) (w ∷ []) ∙ ap (λ l. l ++ char 0x2D ∷ w ∷ []) parts ∙ append_assoc ys (v ∷ []) (char 0x2D ∷ w ∷ [])

      head : (w : Symbol) → Headed neg ((ws ++ char 0x2D ∷ []) ++ w ∷ []) ((xs ++ char 0x2D ∷ []) ++ w ∷ [])
      head w = headed_more w (some_there xs (char 0x2D)) (headed_more (char 0x2D) (λ e. some_there ys v (sym parts ∙ e)) h)

      ranges : (w : Symbol) (c : ℕ) → IsEnd w c → Leads (upto ((ws ++ char 0x2D ∷ []) ++ w ∷ [])) (ended_range neg a c (at_place neg k (place.Range a)))
      ranges w c end =
          by_test _ (nat_le a c) _ _
          (λ e. goes_to neg _ place.Member (either_class k (char_from_to a c))
          (at_member (head w) (subst (λ l. AreMembers l (either_class k (char_from_to a c))) (sym (all w))
          (one_more_range v w a c more is end (leb-true a c e)))))
          (λ e. leads_nowhere _)

      members_are : AreMembers xs (either_class k (only_char a))
      members_are = subst (λ l. AreMembers l (either_class k (only_char a))) (sym parts) (one_more_char v a more is)

      by : (w : Symbol) → Leads (upto ((ws ++ char 0x2D ∷ []) ++ w ∷ [])) (behind_range neg a (at_place neg k (place.Range a)) w)
      by (escaped c) = ranges (escaped c) c escaped_end
      by (class l) = leads_nowhere _
      by (char c) =
          by_test _ (is_end c) _ _ (λ e. ranges (char c) c (end_of_char c e))
          (λ e. dash_step neg ws xs (either_class k (only_char a)) (char c) h members_are)

  -- the first symbol of the members; in a class without `^` it is no `^`
  first_step : (neg : Bool) (ws : List Symbol) (u : Symbol) → Headed neg (ws ++ u ∷ []) (u ∷ [])
      → (p : ClassPlace) → Leads (upto (ws ++ u ∷ [])) (behind_first neg (st (no_char ∷ ks) qs gs b d (mode.Group neg p)) u)
  unfolding behind_first
  first_step neg ws (escaped c) h p = goes_to neg _ (place.Char c) no_char (at_char h none_yet escaped_end refl)
  first_step neg ws (class l) h p = goes_to neg _ place.Member (either_class no_char l) (at_member h (more_members (class l ∷ []) l none_yet class_escape))
  first_step neg ws (char c) h p =
      by_test _ (is_end c) _ _ (λ e. goes_to neg _ (place.Char c) no_char (at_char h none_yet (end_of_char c e) refl))
      (λ e. by_test _ (c == 0x2D) _ _
      (λ q. last_is ws c 0x2D _ q (goes_to neg _ place.Member (either_class no_char dash)
      (at_member (subst (λ x. Headed neg (ws ++ char x ∷ []) (char x ∷ [])) (eqb-true c 0x2D q) h) first_dash)))
      (λ q. leads_nowhere _))

  -- behind `[`
  pub open_step : (u : Symbol) → Leads (upto (u ∷ [])) (behind_open (st (no_char ∷ ks) qs gs b d mode.Open) u)
  unfolding behind_open behind_first
  open_step u =
      by_test _ (is_caret u) _ _
      (λ e. subst (λ w. Leads (upto (w ∷ [])) (Some (at_place true no_char place.First))) (sym (caret_is u e)) (goes_to true _ place.First no_char at_first))
      (λ e. no_caret u (first_step false [] u (headed_first u e) place.First))
    where
      no_caret : (w : Symbol) → Leads (upto (w ∷ [])) (behind_first false (at_place false no_char place.First) w)
          → Leads (upto (w ∷ [])) (behind_first false (st (no_char ∷ ks) qs gs b d mode.Open) w)
      no_caret (escaped c) r = r
      no_caret (class l) r = r
      no_caret (char c) r = r

  pub class_step : (neg : Bool) (p : ClassPlace) (ws : List Symbol) (k : Class) (u : Symbol) → Group neg p ws k
      → Leads (upto (ws ++ u ∷ [])) (in_group neg p (at_place neg k p) u)
  class_step _ _ _ _ u at_first = first_step true (char 0x5E ∷ []) u with_caret place.First
  class_step neg _ ws k u (at_member {xs} h is) = member_step neg ws xs k u h is
  class_step neg _ ws k u (at_char {xs} {ys} {u = v} {c} h more is parts) = char_step neg ws xs ys v c k u h more is parts
  class_step neg _ _ k u (at_range {ws} {xs} {ys} {u = v} {c} h more is parts all) =
      subst (λ l. Leads (upto (l ++ u ∷ [])) (in_group neg (place.Range c) (at_place neg k (place.Range c)) u)) (sym all)
      (range_step neg ws xs ys v c k u h more is parts)
  class_step neg _ _ k u (at_dash {ws} {xs} h is all) =
      subst (λ l. Leads (upto (l ++ u ∷ [])) (in_group neg place.Dash (at_place neg k place.Dash) u)) (sym all) (dash_step neg ws xs k u h is)
  class_step neg _ _ k u (at_last {ws} {xs} h is all) =
      subst (λ l. Leads (upto (l ++ u ∷ [])) (in_group neg place.Last (at_place neg k place.Last) u)) (sym all) (last_step neg ws xs k u h is)

  -- behind the `]` of a class that is subtracted
  pub closed_step : (ws : List Symbol) (k : Class) (u : Symbol) → IsGroup ws k
      → Leads (upto (ws ++ u ∷ [])) (behind_closed (st (k ∷ ks) qs gs b d mode.Closed) u)
  unfolding behind_closed
  closed_step ws k (escaped c) is = leads_nowhere _
  closed_step ws k (class l) is = leads_nowhere _
  closed_step ws k (char c) is =
      by_test _ (c == 0x5D) _ _ (λ p. last_is ws c 0x5D _ p (leads_to _ _ (ended_reads br cl is refl))) (λ p. leads_nowhere _)

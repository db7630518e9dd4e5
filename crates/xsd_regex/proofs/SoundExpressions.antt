-- What is read is what the symbols mean.
use Rattle.std.proofs.Common.{◌≡◌, ◌∙◌, ◌≤◌, ◌<◌, ◌+◌, ◌*◌, ℕ, zero, List, [], ◌∷◌, ◌++◌, length, codes, Bool, true, false, cond}
use Rattle.std.proofs.Common.{◌==◌, ◌||◌}
use Rattle.std.proofs.Common.{nat_le, nat_lt, Option, Some, None, slice_index_or, refl, sym, ap, subst, arith, rules, eqb-true, leb-true, ltb-true}
use Rattle.std.specs.Option.{option_and_then}
use Rattle.std.specs.Char.{digit_value}
use Rattle.std.specs.Str.Parse.{AllDigits, digits_value_after}
use Rattle.std.proofs.lemmas.List.{append_assoc, append-nil}
use Rattle.std.proofs.lemmas.Option.{same_Some}
use Rattle.rng_model.specs.declared.regex_mode.RegexMode.{RegexMode}
use Rattle.rng_model.specs.declared.regex_mode.RegexMode.TheVariants as mode
use Rattle.rng_model.specs.regexes.Expressions.{Class, no_char, only_char, Regex, nothing_more, one_of, either}
use Rattle.rng_model.specs.regexes.Symbols.{Symbol, char, escaped, class}
use Rattle.rng_model.specs.regexes.ExpressionGrammar.{chars_of, most_count, is_meta, wildcard, IsCount, count, IsQuantifier, optional, any_number}
use Rattle.rng_model.specs.regexes.ExpressionGrammar.{one_or_more, exactly, at_least, between}
use Rattle.rng_model.specs.regexes.ExpressionGrammar.{IsExpression, branch, or_branch, IsBranch, no_piece, IsAtom, normal, anything, single_escape}
use Rattle.rng_model.specs.regexes.ExpressionGrammar.{class_escape, grouped}
use Rattle.rng_model.specs.regexes.plain.ClassSteps.{State, Next}
use Rattle.rng_model.specs.regexes.plain.Machine.{run, start, finished, step, piece, sign, closed_in, behind_atom, quantifier}
use Rattle.rng_model.specs.regexes.plain.ClassSteps.{behind_open}
use Rattle.rng_model.specs.regexes.plain.Machine.{opens_quantifier}
use Rattle.rng_model.specs.regexes.plain.Machine.{in_least, in_most, behind_least, behind_most, limited, with_digit, with_alternative}
use Rattle.rng_model.specs.regexes.plain.Machine.{quantified, next_branch, open_group, atom_of}
use Rattle.rng_model.specs.regexes.plain.Machine.{whole_in}
use Rattle.rng_model.specs.regexes.plain.Held.{Held}
use Rattle.xsd_regex.proofs.CompleteClasses.{st}
use Rattle.xsd_regex.proofs.SoundClasses.{outermost}
use Rattle.xsd_regex.proofs.ReadSymbols.{Outer, no_outer, after_bar, in_group, InBranch, in_branch, AtAtom, at_atom, settled, settled_times}
use Rattle.xsd_regex.proofs.ReadSymbols.{Digits, no_digits, digits, Reads, ready, atom, least, most, open_class, in_class, closed, ReadsTo}
use Rattle.xsd_regex.proofs.SoundSteps.{Leads, leads_to, leads_nowhere, by_test, class_step, open_step, closed_step}

-- the last symbol is this one
last_is : (us : List Symbol) (c n : ℕ) (next : Next) → (c == n) ≡ true → Leads (us ++ char n ∷ []) next → Leads (us ++ char c ∷ []) next
last_is us c n next e r = subst (λ x. Leads (us ++ char x ∷ []) next) (sym (eqb-true c n e)) r

-- ---- a whole expression

-- all that is before the expression that the last branch ends, and this expression
record Whole (all : List Symbol) (gs : List Bool) (b : Bool) (qs : List Regex) (m : RegexMode) : Type 0 where
  pub before : List Symbol
  pub regexes : List Regex
  pub outer : Outer before gs false regexes
  pub these : List Symbol
  pub of : Regex
  pub is : IsExpression these of
  pub parts : all ≡ before ++ these
  pub left : with_alternative (st [] qs gs b 0 m) ≡ record { classes = []; regexes = of ∷ regexes }

whole_by : (m : RegexMode) {us vs all : List Symbol} {gs : List Bool} {b : Bool} {rs : List Regex} {a : Regex} → Outer us gs b rs → IsBranch vs a → all ≡ us ++ vs
    → Whole all gs b (a ∷ rs) m
whole_by m {vs} {a} no_outer br parts =
    record { before = []; regexes = []; outer = no_outer; these = vs; of = a; is = branch br; parts = parts; left = refl }
whole_by m {us} {vs} {rs} {a} (in_group o before inside) br parts =
    record { before = us; regexes = rs; outer = in_group o before inside; these = vs; of = a; is = branch br; parts = parts; left = refl }
whole_by m {vs} {a} (after_bar {us} {vs = ws} {rs} {x} o ex inside) br parts =
    record {
      before = us;
      regexes = rs;
      outer = o;
      these = ws ++ char 0x7C ∷ vs;
      of = either x a;
      is = or_branch ex br refl;
      parts = parts ∙ ap (λ l. l ++ vs) inside ∙ append_assoc us (ws ++ char 0x7C ∷ []) vs ∙ ap (λ l. us ++ l) (append_assoc ws (char 0x7C ∷ []) vs);
      left = refl;
    }

whole : (m : RegexMode) {us : List Symbol} {gs : List Bool} {b : Bool} {qs : List Regex} → InBranch us gs b qs → Whole us gs b qs m
whole m (in_branch o br parts) = whole_by m o br parts

-- ---- where a piece may begin

close_group : {us : List Symbol} {gs : List Bool} {rs : List Regex} {b : Bool} (ws : List Symbol) (x : Regex) → Outer us (b ∷ gs) false rs → IsExpression ws x
    → Reads ((us ++ ws) ++ char 0x29 ∷ []) [] (x ∷ rs) gs b zero mode.Atom
close_group ws x (in_group {us} {vs} o br inside) is =
    atom (at_atom (in_branch o br refl) (grouped is refl)
    (ap (λ l. (l ++ ws) ++ char 0x29 ∷ []) inside
    ∙ append_assoc (us ++ (vs ++ char 0x28 ∷ [])) ws (char 0x29 ∷ [])
    ∙ append_assoc us (vs ++ char 0x28 ∷ []) (ws ++ char 0x29 ∷ [])
    ∙ ap (λ l. us ++ l) (append_assoc vs (char 0x28 ∷ []) (ws ++ char 0x29 ∷ []))
    ∙ sym (append_assoc us vs (char 0x28 ∷ (ws ++ char 0x29 ∷ [])))))

module _ (m : RegexMode) where
  closes : (gs : List Bool) {us : List Symbol} {b : Bool} {qs : List Regex} → InBranch us gs b qs
      → Leads (us ++ char 0x29 ∷ []) (closed_in gs (st [] qs gs b 0 m))
  unfolding closed_in
  closes [] br = leads_nowhere _
  closes (c ∷ gs) {b} {qs} br =
      let w = whole m br in
      leads_to _ _ (subst (λ l. Reads (l ++ char 0x29 ∷ []) (with_alternative (st [] qs (c ∷ gs) b 0 m)).classes
      (with_alternative (st [] qs (c ∷ gs) b 0 m)).regexes gs c zero mode.Atom) (sym w.parts)
      (subst (λ h. Reads ((w.before ++ w.these) ++ char 0x29 ∷ []) h.classes h.regexes gs c zero mode.Atom) (sym w.left)
      (close_group w.these w.of w.outer w.is)))

  bars : {us : List Symbol} {gs : List Bool} {b : Bool} {qs : List Regex} → InBranch us gs b qs
      → Leads (us ++ char 0x7C ∷ []) (Some (next_branch (st [] qs gs b 0 m)))
  bars {us} {gs} {b} {qs} br =
      let w = whole m br in
      let text : us ++ char 0x7C ∷ [] ≡ w.before ++ (w.these ++ char 0x7C ∷ []) =
      ap (λ l. l ++ char 0x7C ∷ []) w.parts ∙ append_assoc w.before w.these (char 0x7C ∷ []) in
      leads_to _ _ (subst (λ h. Reads (us ++ char 0x7C ∷ []) h.classes (nothing_more ∷ h.regexes) gs true zero mode.Ready) (sym w.left)
      (ready (in_branch (after_bar w.outer w.is text) no_piece (sym (append-nil _)))))

  opens : {us : List Symbol} {gs : List Bool} {b : Bool} {qs : List Regex} → InBranch us gs b qs
      → Leads (us ++ char 0x28 ∷ []) (Some (open_group (st [] qs gs b 0 m)))
  opens (in_branch {us} {vs} o br parts) =
      leads_to _ _ (ready (in_branch (in_group o br (ap (λ l. l ++ char 0x28 ∷ []) parts ∙ append_assoc us vs (char 0x28 ∷ []))) no_piece (sym (append-nil _))))

  new_atom : {us : List Symbol} {gs : List Bool} {b : Bool} {qs : List Regex} (vs : List Symbol) (k : Class) → InBranch us gs b qs → IsAtom vs (one_of k)
      → Leads (us ++ vs) (Some (atom_of k (st [] qs gs b 0 m)))
  new_atom vs k br is = leads_to _ _ (atom (at_atom br is refl))

  sign_step : {us : List Symbol} {gs : List Bool} {b : Bool} {qs : List Regex} (c : ℕ) → InBranch us gs b qs
      → Leads (us ++ char c ∷ []) (sign (st [] qs gs b 0 m) c)
  unfolding sign
  sign_step {us} {gs} {b} {qs} c br =
      by_test _ (c == 0x28) _ _ (λ e. last_is us c 0x28 _ e (opens br))
      (λ e. by_test _ (c == 0x29) _ _ (λ e. last_is us c 0x29 _ e (closes gs br))
      (λ e. by_test _ (c == 0x7C) _ _ (λ e. last_is us c 0x7C _ e (bars br))
      (λ e. by_test _ (c == 0x5B) _ _ (λ e. last_is us c 0x5B _ e (leads_to _ _ (open_class br outermost refl)))
      (λ e. by_test _ (c == 0x2E) _ _ (λ e. last_is us c 0x2E _ e (new_atom (chars_of (codes ".")) wildcard br anything)) (λ e. leads_nowhere _)))))

  piece_step : {us : List Symbol} {gs : List Bool} {b : Bool} {qs : List Regex} (u : Symbol) → InBranch us gs b qs
      → Leads (us ++ u ∷ []) (piece (st [] qs gs b 0 m) u)
  unfolding piece
  piece_step (escaped c) br = new_atom (escaped c ∷ []) (only_char c) br single_escape
  piece_step (class k) br = new_atom (class k ∷ []) k br class_escape
  piece_step (char c) br =
      by_test _ (is_meta c) _ _ (λ e. sign_step c br) (λ e. new_atom (char c ∷ []) (only_char c) br (normal e))

-- ---- behind an atom

times_step : {us all : List Symbol} {gs : List Bool} {b : Bool} {qs : List Regex} {n : ℕ} {o : Option ℕ} (m : RegexMode) (vs : List Symbol) → AtAtom us gs b qs
    → IsQuantifier vs n o → all ≡ us ++ vs → Leads all (Some (quantified n o (st [] qs gs b 0 m)))
times_step m vs at is parts = leads_to _ _ (ready (settled_times vs at is parts))

-- the sign that is none of the first three
fourth : (c : ℕ) → opens_quantifier c ≡ true → (c == 0x3F) ≡ false → (c == 0x2A) ≡ false → (c == 0x2B) ≡ false → (c == 0x7B) ≡ true
fourth c e p q r = by (c == 0x3F) (c == 0x2A) (c == 0x2B) (c == 0x7B) p q r e
  where
    by : (a b d f : Bool) → a ≡ false → b ≡ false → d ≡ false → (a || (b || (d || (f || false)))) ≡ true → f ≡ true
    by false false false true p q r e = refl
    by false false false false p q r e = cc
    by true b d f p q r e = cc
    by false true d f p q r e = cc
    by false false true f p q r e = cc

quantifier_step : {us : List Symbol} {gs : List Bool} {b : Bool} {qs : List Regex} (c : ℕ) → AtAtom us gs b qs → opens_quantifier c ≡ true
    → Leads (us ++ char c ∷ []) (quantifier (st [] qs gs b 0 mode.Atom) c)
unfolding quantifier
quantifier_step {us} {gs} {b} {qs} c at e =
    by_test _ (c == 0x3F) _ _ (λ p. last_is us c 0x3F _ p (times_step mode.Atom (chars_of (codes "?")) at optional refl))
    (λ p. by_test _ (c == 0x2A) _ _ (λ q. last_is us c 0x2A _ q (times_step mode.Atom (chars_of (codes "*")) at any_number refl))
    (λ q. by_test _ (c == 0x2B) _ _ (λ r. last_is us c 0x2B _ r (times_step mode.Atom (chars_of (codes "+")) at one_or_more refl))
    (λ r. last_is us c 0x7B _ (fourth c e p q r) (leads_to _ _ (least at no_digits refl)))))

atom_step : {us : List Symbol} {gs : List Bool} {b : Bool} {qs : List Regex} (u : Symbol) → AtAtom us gs b qs
    → Leads (us ++ u ∷ []) (behind_atom (st [] qs gs b 0 mode.Atom) u)
unfolding behind_atom
atom_step (escaped c) at = piece_step mode.Ready (escaped c) (settled at)
atom_step (class k) at = piece_step mode.Ready (class k) (settled at)
atom_step (char c) at =
    by_test _ (opens_quantifier c) _ _ (λ e. quantifier_step c at e) (λ e. piece_step mode.Ready (char c) (settled at))

-- ---- counts

after_append : (n : ℕ) (ds es : List ℕ) → digits_value_after 10 n (ds ++ es) ≡ digits_value_after 10 (digits_value_after 10 n ds) es
after_append n [] es = refl
after_append n (d ∷ ds) es = after_append (n * 10 + digit_value d) ds es

all_append : (ds : List ℕ) (c : ℕ) → AllDigits 10 ds → digit_value c < 10 → AllDigits 10 (ds ++ c ∷ [])
all_append [] c all small = (small, search rules)
all_append (d ∷ ds) c all small = (all.0, all_append ds c all.1 small)

digits_there : (ds : List ℕ) (c : ℕ) → 0 < length (ds ++ c ∷ [])
digits_there [] c = omega arith
digits_there (d ∷ ds) c = omega arith

-- the number that a digit makes
read_value : (n m : ℕ) → cond (nat_le n most_count) (Some n) None ≡ Some m → m ≡ n
read_value n m e = by (nat_le n most_count) e
  where
    by : (b : Bool) → cond b (Some n) None ≡ Some m → m ≡ n
    by true e = cc
    by false e = cc

read_within : (n m : ℕ) → cond (nat_le n most_count) (Some n) None ≡ Some m → m ≤ most_count
read_within n m e = by (nat_le n most_count) refl e
  where
    by : (b : Bool) → nat_le n most_count ≡ b → cond b (Some n) None ≡ Some m → m ≤ most_count
    by true p e = let same : n ≡ m = cc in subst (λ x. x ≤ most_count) same (leb-true n most_count p)
    by false p e = cc

-- one digit more
more_digits : {o : Option ℕ} {ds : List ℕ} (c m : ℕ) → Digits o ds → digit_value c < 10 → with_digit o c ≡ Some m → Digits (Some m) (ds ++ c ∷ [])
more_digits c m no_digits small e =
    digits (omega arith, (small, search rules)) (read_value (0 * 10 + digit_value c) m e) (read_within (0 * 10 + digit_value c) m e)
more_digits c m (digits {n} {ds} is same le) small e =
    digits (digits_there ds c, all_append ds c is.1 small)
    (read_value (n * 10 + digit_value c) m e ∙ ap (λ x. x * 10 + digit_value c) same ∙ sym (after_append 0 ds (c ∷ [])))
    (read_within (n * 10 + digit_value c) m e)

chars_append : (ds : List ℕ) (c : ℕ) → chars_of ds ++ char c ∷ [] ≡ chars_of (ds ++ c ∷ [])
chars_append [] c = refl
chars_append (d ∷ ds) c = ap (λ l. char d ∷ l) (chars_append ds c)

count_of : {n : ℕ} {ds : List ℕ} → Digits (Some n) ds → IsCount (chars_of ds) n
count_of (digits {n} {ds} is same le) = count ds is refl same le

no_count : {ds : List ℕ} → Digits None ds → ds ≡ []
no_count no_digits = refl

behind_least_step : {us all : List Symbol} {gs : List Bool} {b : Bool} {qs : List Regex} {ds : List ℕ} (o : Option ℕ) (c : ℕ) → AtAtom us gs b qs → Digits o ds
    → all ≡ us ++ char 0x7B ∷ chars_of ds → Leads (all ++ char c ∷ []) (behind_least o (st [] qs gs b 0 (mode.Least o)) c)
unfolding behind_least
behind_least_step None c at ds parts = leads_nowhere _
behind_least_step {us} {all} {gs} {b} {qs} {ds} (Some n) c at is parts =
    by_test _ (c == 0x2C) _ _
    (λ e. last_is all c 0x2C _ e (leads_to _ _ (most at (count_of is) no_digits (behind (char 0x2C)))))
    (λ e. by_test _ (c == 0x7D) _ _
    (λ p. last_is all c 0x7D _ p
    (times_step (mode.Least (Some n)) (char 0x7B ∷ (chars_of ds ++ char 0x7D ∷ [])) at (exactly (count_of is) refl) (behind (char 0x7D))))
    (λ p. leads_nowhere _))
  where
    behind : (u : Symbol) → all ++ u ∷ [] ≡ us ++ char 0x7B ∷ (chars_of ds ++ u ∷ [])
    behind u = ap (λ l. l ++ u ∷ []) parts ∙ append_assoc us (char 0x7B ∷ chars_of ds) (u ∷ [])

limited_step : {us ns all : List Symbol} {gs : List Bool} {b : Bool} {qs : List Regex} {ds : List ℕ} (n : ℕ) (o : Option ℕ) → AtAtom us gs b qs → IsCount ns n
    → Digits o ds → all ≡ us ++ char 0x7B ∷ (ns ++ char 0x2C ∷ (chars_of ds ++ char 0x7D ∷ [])) → Leads all (limited n o (st [] qs gs b 0 (mode.Most n o)))
limited_step {us} {ns} n None at first no_digits parts =
    times_step (mode.Most n None) (char 0x7B ∷ (ns ++ char 0x2C ∷ char 0x7D ∷ [])) at (at_least first refl) parts
limited_step {us} {ns} {ds} n (Some m) at first is parts =
    by_test _ (nat_le n m) _ _
    (λ e. times_step (mode.Most n (Some m)) (char 0x7B ∷ (ns ++ char 0x2C ∷ (chars_of ds ++ char 0x7D ∷ []))) at
    (between first (count_of is) (leb-true n m e) refl) parts)
    (λ e. leads_nowhere _)

digit_step : (us : List Symbol) (o : Option ℕ) (c : ℕ) (f : ℕ → State) → ((m : ℕ) → with_digit o c ≡ Some m → ReadsTo us (f m))
    → Leads us (option_and_then (λ m. Some (f m)) (with_digit o c))
digit_step us o c f r = by (with_digit o c) refl
  where
    by : (x : Option ℕ) → with_digit o c ≡ x → Leads us (option_and_then (λ m. Some (f m)) x)
    by None e = leads_nowhere us
    by (Some m) e = leads_to us (f m) (r m e)

least_step : {us all : List Symbol} {gs : List Bool} {b : Bool} {qs : List Regex} {ds : List ℕ} (o : Option ℕ) (u : Symbol) → AtAtom us gs b qs → Digits o ds
    → all ≡ us ++ char 0x7B ∷ chars_of ds → Leads (all ++ u ∷ []) (in_least o (st [] qs gs b 0 (mode.Least o)) u)
unfolding in_least
least_step o (escaped c) at is parts = leads_nowhere _
least_step o (class k) at is parts = leads_nowhere _
least_step {us} {all} {gs} {b} {qs} {ds} o (char c) at is parts =
    by_test _ (nat_lt (digit_value c) 10) _ _
    (λ e. digit_step _ o c _ (λ m p. least at (more_digits c m is (ltb-true _ _ e) p)
    (ap (λ l. l ++ char c ∷ []) parts ∙ append_assoc us (char 0x7B ∷ chars_of ds) (char c ∷ []) ∙ ap (λ l. us ++ char 0x7B ∷ l) (chars_append ds c))))
    (λ e. behind_least_step o c at is parts)

most_step : {us ns all : List Symbol} {gs : List Bool} {b : Bool} {qs : List Regex} {ds : List ℕ} (n : ℕ) (o : Option ℕ) (u : Symbol) → AtAtom us gs b qs
    → IsCount ns n → Digits o ds → all ≡ us ++ char 0x7B ∷ (ns ++ char 0x2C ∷ chars_of ds)
    → Leads (all ++ u ∷ []) (in_most n o (st [] qs gs b 0 (mode.Most n o)) u)
unfolding in_most behind_most
most_step n o (escaped c) at first is parts = leads_nowhere _
most_step n o (class k) at first is parts = leads_nowhere _
most_step {us} {ns} {all} {gs} {b} {qs} {ds} n o (char c) at first is parts =
    by_test _ (nat_lt (digit_value c) 10) _ _
    (λ e. digit_step _ o c _ (λ m p. most at first (more_digits c m is (ltb-true _ _ e) p)
    (behind c ∙ ap (λ l. us ++ char 0x7B ∷ (ns ++ char 0x2C ∷ l)) (chars_append ds c))))
    (λ e. by_test _ (c == 0x7D) _ _ (λ p. last_is all c 0x7D _ p (limited_step n o at first is (behind 0x7D))) (λ p. leads_nowhere _))
  where
    behind : (x : ℕ) → all ++ char x ∷ [] ≡ us ++ char 0x7B ∷ (ns ++ char 0x2C ∷ (chars_of ds ++ char x ∷ []))
    behind x =
        ap (λ l. l ++ char x ∷ []) parts ∙ append_assoc us (char 0x7B ∷ (ns ++ char 0x2C ∷ chars_of ds)) (char x ∷ [])
        ∙ ap (λ l. us ++ char 0x7B ∷ l) (append_assoc ns (char 0x2C ∷ chars_of ds) (char x ∷ []))

-- ---- all steps

in_parts : (us vs ws all : List Symbol) (u : Symbol) (next : Next) → all ≡ us ++ (vs ++ ws) → Leads (us ++ (vs ++ (ws ++ u ∷ []))) next
    → Leads (all ++ u ∷ []) next
in_parts us vs ws all u next parts r =
    let text : all ++ u ∷ [] ≡ us ++ (vs ++ (ws ++ u ∷ [])) =
    ap (λ l. l ++ u ∷ []) parts ∙ append_assoc us (vs ++ ws) (u ∷ []) ∙ ap (λ l. us ++ l) (append_assoc vs ws (u ∷ [])) in
    subst (λ l. Leads l next) (sym text) r

pub step_reads : {us : List Symbol} {ks : List Class} {qs : List Regex} {gs : List Bool} {b : Bool} {d : ℕ} {m : RegexMode} (u : Symbol) → Reads us ks qs gs b d m
    → Leads (us ++ u ∷ []) (step (st ks qs gs b d m) u)
step_reads u (ready br) = piece_step mode.Ready u br
step_reads u (atom at) = atom_step u at
step_reads u (least {o} at is parts) = least_step o u at is parts
step_reads u (most {n} {o} at first is parts) = most_step n o u at first is parts
step_reads u (open_class {us} {vs} {gs} {b} {qs} {d} {ks} br cl parts) =
    subst (λ l. Leads l (behind_open (st (no_char ∷ ks) qs gs b d mode.Open) u))
    (sym (ap (λ l. l ++ u ∷ []) parts ∙ append_assoc us vs (u ∷ []))) (open_step br cl u)
step_reads u (in_class {us} {vs} {ws} {all} {neg} {p} {k} br cl g parts) =
    in_parts us vs ws all u _ parts (class_step br cl neg p ws k u g)
step_reads u (closed {us} {vs} {ws} {all} {k} br cl is parts) = in_parts us vs ws all u _ parts (closed_step br cl ws k u is)

-- ---- the end

abbrev first_of : Held → Regex
first_of h = slice_index_or h.regexes 0 nothing_more

top_level : {us : List Symbol} {rs : List Regex} → Outer us [] false rs → us ≡ []
top_level no_outer = refl

top_rest : {us : List Symbol} {rs : List Regex} → Outer us [] false rs → rs ≡ []
top_rest no_outer = refl

ends : (m : RegexMode) (gs : List Bool) {us : List Symbol} {b : Bool} {qs : List Regex} (r : Regex) → InBranch us gs b qs → whole_in gs (st [] qs gs b 0 m) ≡ Some r
    → IsExpression us r
ends m [] r br e =
    let w = whole m br in
    let same : w.of ≡ r = same_Some _ _ (sym (ap (λ h. Some (first_of h)) w.left) ∙ e) in
    subst (λ l. IsExpression l r) (sym (w.parts ∙ ap (λ l. l ++ w.these) (top_level w.outer))) (subst (λ x. IsExpression w.these x) same w.is)
ends m (c ∷ gs) r br e = cc

end_reads : {us : List Symbol} {ks : List Class} {qs : List Regex} {gs : List Bool} {b : Bool} {d : ℕ} {m : RegexMode} (r : Regex) → Reads us ks qs gs b d m
    → finished (st ks qs gs b d m) ≡ Some r → IsExpression us r
end_reads r (ready {gs} br) e = ends mode.Ready gs r br e
end_reads r (atom {gs} at) e = ends mode.Ready gs r (settled at) e
end_reads r (least at is parts) e = cc
end_reads r (most at first is parts) e = cc
end_reads r (open_class br cl parts) e = cc
end_reads r (in_class br cl g parts) e = cc
end_reads r (closed br cl is parts) e = cc

run_reads : (vs us : List Symbol) (s : State) (r : Regex) → ReadsTo us s → run s vs ≡ Some r → IsExpression (us ++ vs) r
unfolding run
run_reads [] us s r is e = subst (λ l. IsExpression l r) (sym (append-nil us)) (end_reads r is e)
run_reads (u ∷ vs) us s r is e = by (step s u) (step_reads u is) (λ t. run_reads vs (us ++ u ∷ []) t r) e
  where
    by : (n : Next) → Leads (us ++ u ∷ []) n → ((t : State) → ReadsTo (us ++ u ∷ []) t → run t vs ≡ Some r → IsExpression ((us ++ u ∷ []) ++ vs) r)
        → option_and_then (λ t. run t vs) n ≡ Some r → IsExpression (us ++ u ∷ vs) r
    by None leads more q = cc
    by (Some t) leads more q = subst (λ l. IsExpression l r) (append_assoc us (u ∷ []) vs) (more t (leads t refl) q)

pub is_sound : (us : List Symbol) (r : Regex) → run start us ≡ Some r → IsExpression us r
is_sound us r e = run_reads us [] start r (ready (in_branch no_outer no_piece refl)) e

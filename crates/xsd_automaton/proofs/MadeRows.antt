-- A row is made from the targets of characters.
use Rattle.std.proofs.Common.{◌≡◌, ◌∙◌, ◌<◌, ◌≤◌, ℕ, List, length, get_or, sym, subst, inl, inr, arith}
use Rattle.std.proofs.lemmas.Bool.{cases_lt}
use Rattle.std.proofs.lemmas.List.{get_or_past}
use Rattle.std.proofs.lemmas.Grind.{get_or_default_zero}
use Rattle.xsd_regex.specs.plain.Positions.{Position}
use Rattle.xsd_automaton.specs.plain.Sets.{no_set, members_at, AreTargets, HasTarget, no_target, IsLonger, IsRow}
use Rattle.xsd_automaton.proofs.GrownSets.{longer_target}

module _ (ps : List Position) (old mid more : List (List ℕ)) (own past : ℕ) (ascii targets : List ℕ) (first : IsLonger old mid) (then : IsLonger mid more)
    (within : own < length old) (ascii_long : length ascii ≡ 128) (long : length targets ≡ 256)
    (are : AreTargets ps mid (members_at old own) 128 ascii) (has : (c : ℕ) → 128 ≤ c → HasTarget ps more (members_at mid own) c past)
    (front : (b : ℕ) → b < 192 → get_or targets b no_set ≡ get_or ascii b own)
    (back : (b : ℕ) → 192 ≤ b → b < 256 → get_or targets b no_set ≡ past) where
  in_mid : members_at mid own ≡ members_at old own
  in_mid = first.same own within

  in_more : members_at more own ≡ members_at old own
  in_more = let many = first.many in then.same own (omega (arith, within, many)) ∙ in_mid

  of_ascii : (c : ℕ) → c < 128 → HasTarget ps more (members_at more own) c (get_or targets c no_set)
  of_ascii c lt =
      let here : c < length ascii = omega (arith, lt, ascii_long) in
      let same : get_or targets c no_set ≡ get_or ascii c no_set =
      front c (omega (arith, lt)) ∙ get_or_default_zero ascii c own here ∙ sym (get_or_default_zero ascii c no_set here) in
      subst (λ is. HasTarget ps more is c (get_or targets c no_set)) (sym in_more)
      (subst (HasTarget ps more (members_at old own) c) (sym same)
      (longer_target ps mid more then (members_at old own) c (get_or ascii c no_set) (are c lt)))

  of_past : (b c : ℕ) → 192 ≤ b → 128 ≤ c → HasTarget ps more (members_at more own) c (get_or targets b no_set)
  of_past b c from far =
      elim (cases_lt b 256) [
        | inl lt ↦
            subst (λ is. HasTarget ps more is c (get_or targets b no_set)) (in_mid ∙ sym in_more)
            (subst (HasTarget ps more (members_at mid own) c) (sym (back b from lt)) (has c far))
        | inr over ↦ no_target (get_or_past targets b no_set (omega (arith, over, long)))
      ]

  pub made_row : IsRow ps more own targets
  made_row = record {
    ascii = of_ascii;
    past = of_past;
    further = λ b from below. front b below ∙ get_or_past ascii b own (omega (arith, from, ascii_long));
  }

use Rattle.std.proofs.Common.{◌≡◌, ◌-◌, ◌≤◌, ℕ, List, [], ◌∷◌, length, take, drop, get_or, sym, ap, ◌∙◌, arith}
use Rattle.std.proofs.lemmas.List.{take_rest, nil_from_length}
use Rattle.xsd_octets.proofs.NoBlanks.{next_is, none_left}
use Rattle.xsd_octets.proofs.base64_binary.next_character.Goals as goal

-- a list that is not empty is its first member and the rest
parts : (xs : List ℕ) → 1 ≤ length xs → xs ≡ get_or xs 0 0 ∷ take (length xs - 1) (drop 1 xs)
parts [] some = absurd (omega arith)
parts (x ∷ xs) some = ap (λ t. x ∷ t) (sym (take_rest (x ∷ xs) 1))

pub returns-in-empty : goal.returns-in-empty
returns-in-empty c =
    let left : List ℕ = c.past_blanks.result.now in
    none_left c.args.bytes.now (sym c.past_blanks.ensures.past ∙ nil_from_length left (omega arith))

pub returns-in-len1-up : goal.returns-in-len1-up
returns-in-len1-up c =
    let left : List ℕ = c.past_blanks.result.now in
    let is : left ≡ get_or left 0 0 ∷ take (length left - 1) (drop 1 left) = parts left c.in-len1-up.len_at_least in (
      next_is c.args.bytes.now (get_or left 0 0) (take (length left - 1) (drop 1 left)) (sym c.past_blanks.ensures.past ∙ is),
      omega (arith, ap length is, c.past_blanks.ensures.within),
    )

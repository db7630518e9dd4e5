-- No sentence continues where reading stops, if the result of the reader depends only on the tokens it read and on the
-- next one.
use Rattle.std.proofs.Common.{◌≡◌, ℕ, zero, suc, ◌+◌, ◌-◌, ◌≤◌, List, [], ◌∷◌, ◌++◌, length, take, drop, Result, Ok, Err, refl, ap, subst, ◌∙◌, append_assoc}
use Rattle.std.proofs.Common.{arith}
use Rattle.std.proofs.lemmas.List.{length-append, append-nil}
use Rattle.rnc_syntax.specs.declared.fault.Stop.{Stop}
use Rattle.rnc_syntax.specs.declared.fault.Stop.TheVariants.{Unexpected}
use Rattle.rnc_model.specs.tokens.Cut.{Lexeme}
use Rattle.rnc_model.specs.grammar.Syntax.{File}
use Rattle.rnc_syntax.specs.plain.Productions.{inside_at, file_with}
use Rattle.rnc_model.specs.grammar.Sentence.{NestsWithin, IsSentence, BeginsSentence, BeginsAlike, IsStuckAt}
use Rattle.rnc_syntax.proofs.Balance.{length_within}
use Rattle.rnc_syntax.proofs.CompletenessFiles.{file_complete}
use Rattle.rnc_syntax.proofs.Locality.{SameHead}

-- at this depth, a list is stuck if it begins with the same tokens up to and including the one where `ts` is stuck
pub record IsStuckBehind (depth : ℕ) (ts : List Lexeme) (left : ℕ) : Type 0 where
  pub front : List Lexeme
  pub rest : List Lexeme
  pub parts : ts ≡ front ++ rest
  pub count : left ≡ length rest
  pub same : (other : List Lexeme) → SameHead rest other → file_with (inside_at depth) (front ++ other) ≡ Err (Unexpected (length other))

wider : (n k : ℕ) (ts : List Lexeme) → NestsWithin k ts → NestsWithin (n + k) ts
wider n k ts h i = let q = h i in omega (arith, q)

abbrev failed : ℕ → Result File Stop
failed left = Err (Unexpected left)

not_both : (r : Result File Stop) (f : File) (left : ℕ) → r ≡ Ok f → r ≡ failed left → ⊥
not_both r f left e g = absurd cc

no_sentence : (depth left : ℕ) (us : List Lexeme) → NestsWithin depth us → file_with (inside_at depth) us ≡ Err (Unexpected left) → IsSentence us → ⊥
no_sentence depth left us nest fails s = not_both (file_with (inside_at depth) us) s.0 left (file_complete depth s.1 nest) fails

split : (k : ℕ) (us : List Lexeme) → us ≡ take k us ++ drop k us
split zero us = refl
split (suc k) [] = refl
split (suc k) (x ∷ us) = ap (λ (r : List Lexeme). x ∷ r) (split k us)

take_front : (front : List Lexeme) (x : Lexeme) (r : List Lexeme) → take (suc (length front)) (front ++ x ∷ r) ≡ front ++ x ∷ []
take_front [] x r = refl
take_front (y ∷ ys) x r = ap (λ (r : List Lexeme). y ∷ r) (take_front ys x r)

goes_on : (k : ℕ) (us front : List Lexeme) (x : Lexeme) → take k us ≡ front ++ x ∷ [] → us ≡ front ++ x ∷ drop k us
goes_on k us front x e = split k us ∙ ap (λ (r : List Lexeme). r ++ drop k us) e ∙ append_assoc front (x ∷ []) (drop k us)

module _ (depth : ℕ) (front us : List Lexeme) (nest : NestsWithin depth us) (number : ℕ) (e : number ≡ suc (length front)) where
  -- the file is stuck wherever the same token follows the front
  abbrev StuckAlike : List Lexeme → Type 0
  StuckAlike rest = (other : List Lexeme) → SameHead rest other → file_with (inside_at depth) (front ++ other) ≡ Err (Unexpected (length other))

  alike_at_end : StuckAlike [] → BeginsAlike number (front ++ []) us → IsSentence us → ⊥
  alike_at_end same alike s =
      let whole : us ≡ front ++ [] = alike.1 (omega (arith, e, ap length (append-nil front))) in
      no_sentence depth 0 us nest (ap (file_with (inside_at depth)) whole ∙ same [] tt) s

  alike_at_token : (x : Lexeme) (r : List Lexeme) → StuckAlike (x ∷ r) → BeginsAlike number (front ++ x ∷ r) us → IsSentence us → ⊥
  alike_at_token x r same alike s =
      let t : take number us ≡ front ++ x ∷ [] = alike.0 (omega (arith, e, length-append front (x ∷ r))) ∙ ap (λ (k : ℕ). take k (front ++ x ∷ r)) e
      ∙ take_front front x r in
      no_sentence depth (length (x ∷ drop number us)) us nest
      (ap (file_with (inside_at depth)) (goes_on number us front x t) ∙ same (x ∷ drop number us) refl) s

  alike_at : (rest : List Lexeme) → StuckAlike rest → BeginsAlike number (front ++ rest) us → IsSentence us → ⊥
  alike_at [] same alike s = alike_at_end same alike s
  alike_at (x ∷ r) same alike s = alike_at_token x r same alike s

alike_behind : (depth : ℕ) (ts us : List Lexeme) (left : ℕ) → NestsWithin depth us → IsStuckBehind depth ts left → BeginsAlike (length ts - left + 1) ts us
    → IsSentence us → ⊥
alike_behind depth ts us left nest b alike s =
    let number : length ts - left + 1 ≡ suc (length b.front) = omega (arith, b.count, ap length b.parts, length-append b.front b.rest) in
    alike_at depth b.front us nest (length ts - left + 1) number b.rest b.same (subst (λ (ts' : List Lexeme). BeginsAlike (length ts - left + 1) ts' us) b.parts
    alike) s

before : (k : ℕ) → k ≡ k + 1 - 1
before k = omega arith

-- the number of the token of the fault
pub stuck_at : (n : ℕ) (ts : List Lexeme) (left : ℕ) → BeginsSentence (length ts - left) ts → ((m : ℕ) → n ≤ m → IsStuckBehind m ts left)
    → IsStuckAt ts (length ts - left + 1)
stuck_at n ts left begins behind = record {
  positive = omega arith;
  within = omega arith;
  begins = subst (λ (k : ℕ). BeginsSentence k ts) (before (length ts - left)) begins;
  stuck = λ us alike s. alike_behind (n + length us) ts us left (wider n (length us) us (length_within us)) (behind (n + length us) (omega arith)) alike s;
}

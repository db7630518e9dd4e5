-- Single steps of the search for the first fault.
use Rattle.std.proofs.Common.{◌≡◌, ◌∙◌, ℕ, suc, ◌+◌, ◌-◌, ◌<◌, ◌≤◌, Bool, true, false, List, [], ◌∷◌, length, drop, get_or, map, Option, Some, None, arith, ap}
use Rattle.std.proofs.Common.{ap₂, refl, sym, if◌then◌else◌}
use Rattle.rnc_model.specs.declarations.DeclarationRules.{Declarable}
use Rattle.rnc_model.specs.declarations.Declarations.{Scope, declare}
use Rattle.rnc_model.specs.declared.token.Token.{Token}
use Rattle.rnc_model.specs.grammar.Syntax.{Declaration}
use Rattle.rnc_model.specs.declared.token.Sign.TheVariants.{CloseBracket, OpenBracket}
use Rattle.rnc_model.specs.tokens.Cut.{Lexeme, cname, identifier, keyword, ns_name, segment, sign}
use Rattle.rnc_places.specs.declared.prefixes.Part.{Part}
use Rattle.rnc_places.specs.plain.FaultNumbers.{behind_declaration, behind_first, behind_tildes, fault_number, from_equal, is_equal, is_tilde}
use Rattle.rnc_places.specs.plain.FaultNumbers.{depth_after, first_of, is_unknown, marks, other_front, part_at, prefix_at, tilde_front, unknown_number}
use Rattle.rnc_places.specs.plain.FaultNumbers.{unless_applied}
use Rattle.rnc_places.specs.declared.prefixes.Part.TheVariants.{Body}
use Rattle.rnc_syntax.proofs.Lexemes.{length_of_lexemes}
use Rattle.rnc_syntax.specs.declared.syntax_tree.Declaration as written
use Rattle.rnc_syntax.specs.views.SyntaxView.{declaration_of}
use Rattle.std.proofs.Math.Seq.{drop-cons}
use Rattle.std.proofs.lemmas.List.{drop_all}
use Rattle.rnc_syntax.specs.plain.Reading.{lexemes_in}

module _ (s : Scope) (m : Option Declarable) (ms : List (Option Declarable)) where
  by_test : (b : Bool) → is_unknown s m ≡ b → unknown_number s (m ∷ ms) ≡ (if b then 1 else suc (unknown_number s ms))
  by_test b e = ap (λ (b : Bool). if b then 1 else suc (unknown_number s ms)) e

  pub unknown_here : is_unknown s m ≡ true → unknown_number s (m ∷ ms) ≡ 1
  unknown_here e = by_test true e

  pub unknown_later : is_unknown s m ≡ false → unknown_number s (m ∷ ms) ≡ suc (unknown_number s ms)
  unknown_later e = by_test false e

pub front_is : (ts : List Lexeme) (x : Lexeme) (us : List Lexeme) → Some (x, us) ≡ first_of ts → ts ≡ x ∷ us
front_is [] x us e = absurd cc
front_is (y ∷ ts) x us e =
    let whole : ◌≡◌ {A = Lexeme × List Lexeme} (x, us) (y, ts) = cc in
    ap₂ (λ (x : Lexeme) (us : List Lexeme). x ∷ us) (sym (ap (λ (z : Lexeme × List Lexeme). z.0) whole)) (sym (ap (λ (z : Lexeme × List Lexeme). z.1) whole))

-- a token without a fault
module _ (s : Scope) (d : ℕ) (a : Part) (ts : List Lexeme) (x : Lexeme) (us : List Lexeme) (is : Some (x, us) ≡ first_of ts) (count left whole : ℕ)
    (so_far : (count - left) + unknown_number s (marks d a ts) ≡ whole) where
  pub fault_later : (less : ℕ) → less + 1 ≡ left → left ≤ count → is_unknown s (prefix_at d a x) ≡ false → (e : ℕ) (b : Part) (vs : List Lexeme)
      → e ≡ depth_after d x → b ≡ part_at d a x → vs ≡ us → (count - less) + unknown_number s (marks e b vs) ≡ whole
  fault_later less one within known e b vs e-is b-is vs-is =
      let number : unknown_number s (marks d a ts) ≡ suc (unknown_number s (marks (depth_after d x) (part_at d a x) us)) =
      ap (λ (ts : List Lexeme). unknown_number s (marks d a ts)) (front_is ts x us is)
      ∙ unknown_later s (prefix_at d a x) (marks (depth_after d x) (part_at d a x) us) known in
      let same : unknown_number s (marks e b vs) ≡ unknown_number s (marks (depth_after d x) (part_at d a x) us) =
      ap (λ (n : ℕ). unknown_number s (marks n b vs)) e-is ∙ ap₂ (λ (b : Part) (vs : List Lexeme). unknown_number s (marks (depth_after d x) b vs)) b-is vs-is in
      omega (arith, so_far, number, same, one, within)

-- no token is left
pub none_left : (s : Scope) (d : ℕ) (a : Part) (total : ℕ) (rest : List Token) (count whole : ℕ) → None ≡ first_of (lexemes_in total rest)
    → (count - length rest) + unknown_number s (marks d a (lexemes_in total rest)) ≡ whole → count + 1 ≡ whole
none_left s d a total [] count whole e so_far = omega (arith, so_far)
none_left s d a total (t ∷ ts) count whole e so_far = absurd cc

-- the number of open annotations grows by one at most
pub depth_grows : (d : ℕ) (x : Lexeme) → depth_after d x ≤ d + 1
depth_grows d (sign OpenBracket) = omega arith
depth_grows d (sign CloseBracket) = omega arith
depth_grows d (sign _) = omega arith
depth_grows d (keyword k s) = omega arith
depth_grows d (identifier w) = omega arith
depth_grows d (cname p l) = omega arith
depth_grows d (ns_name p) = omega arith
depth_grows d (segment w) = omega arith

pub other_skipped : (ts us : List Lexeme) → other_front ts ≡ Some us → from_equal ts ≡ from_equal us
other_skipped [] us e = absurd cc
other_skipped (x ∷ ts) us e = by (is_equal x) e
  where
    by : (b : Bool) → (if b then None else Some ts) ≡ Some us → (if b then x ∷ ts else from_equal ts) ≡ from_equal us
    by true e = absurd cc
    by false e = let same : ts ≡ us = cc in ap from_equal same

pub equal_found : (ts : List Lexeme) → other_front ts ≡ None → from_equal ts ≡ ts
equal_found [] e = refl
equal_found (x ∷ ts) e = by (is_equal x) e
  where
    by : (b : Bool) → (if b then None else Some ts) ≡ None → (if b then x ∷ ts else from_equal ts) ≡ x ∷ ts
    by true e = refl
    by false e = absurd cc

some_is : (b : Bool) (us vs v w : List Lexeme) → (if b then Some us else None) ≡ Some vs → (us ≡ vs) × ((if b then v else w) ≡ v)
some_is true us vs v w e = (let same : us ≡ vs = cc in same, refl)
some_is false us vs v w e = absurd cc

some_not : (b : Bool) (us v w : List Lexeme) → (if b then Some us else None) ≡ None → (if b then v else w) ≡ w
some_not true us v w e = absurd cc
some_not false us v w e = refl

pub tilde_skipped : (ts us : List Lexeme) → tilde_front ts ≡ Some us → behind_tildes ts ≡ behind_tildes (behind_first us)
tilde_skipped [] us e = absurd cc
tilde_skipped (x ∷ []) us e =
    let p = some_is (is_tilde x) [] us [] (x ∷ []) e in p.1 ∙ ap (λ (us : List Lexeme). behind_tildes (behind_first us)) p.0
tilde_skipped (x ∷ y ∷ ts) us e =
    let p = some_is (is_tilde x) (y ∷ ts) us (behind_tildes ts) (x ∷ y ∷ ts) e in p.1 ∙ ap (λ (us : List Lexeme). behind_tildes (behind_first us)) p.0

pub tildes_end : (ts : List Lexeme) → tilde_front ts ≡ None → behind_tildes ts ≡ ts
tildes_end [] e = refl
tildes_end (x ∷ []) e = some_not (is_tilde x) [] [] (x ∷ []) e
tildes_end (x ∷ y ∷ ts) e = some_not (is_tilde x) (y ∷ ts) (behind_tildes ts) (x ∷ y ∷ ts) e

-- a declaration that cannot be applied
broken_first : (total : ℕ) (s : Scope) (d : Declaration) (ds : List Declaration) (ts : List Token) → declare s d ≡ None
    → fault_number total s (d ∷ ds) (lexemes_in total ts) ≡ (total - length ts) + 1
broken_first total s d ds ts e =
    ap (λ (o : Option Scope). unless_applied o ((total - length (lexemes_in total ts)) + 1)
    (λ t. fault_number total t ds (behind_declaration (lexemes_in total ts)))) e
    ∙ ap (λ (n : ℕ). (total - n) + 1) (length_of_lexemes total ts)

module _ (total : ℕ) (s : Scope) (ds : List written.Declaration) (i : ℕ) (ts : List Token) where
  pub broken_at : (d : written.Declaration) → i < length ds → d ≡ get_or ds i d → declare s (declaration_of d) ≡ None
      → fault_number total s (map declaration_of (drop i ds)) (lexemes_in total ts) ≡ (total - length ts) + 1
  broken_at d inside item none =
      ap (λ (ds : List written.Declaration). fault_number total s (map declaration_of ds) (lexemes_in total ts))
      (drop-cons ds i d inside ∙ ap (λ (x : written.Declaration). x ∷ drop (suc i) ds) (sym item))
      ∙ broken_first total s (declaration_of d) (map declaration_of (drop (suc i) ds)) ts none

  -- all declarations are applied
  pub ended_at : (number : ℕ) → length ds ≤ i → number ≡ unknown_number s (marks 0 Body (lexemes_in total ts))
      → fault_number total s (map declaration_of (drop i ds)) (lexemes_in total ts) ≡ (total - length ts) + number
  ended_at number end e =
      ap (λ (ds : List written.Declaration). fault_number total s (map declaration_of ds) (lexemes_in total ts)) (drop_all i ds end)
      ∙ ap₂ (λ (n m : ℕ). (total - n) + m) (length_of_lexemes total ts) (sym e)

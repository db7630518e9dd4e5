-- The result for tokens agrees with the definitions: their syntax tree, or their fault.
use Rattle.std.proofs.Common.{◌≡◌, ℕ, ◌+◌, ◌-◌, List, length, Result, Ok, Err, IfOk, IfErr, refl, ap, subst}
use Rattle.rnc_syntax.specs.declared.fault.Stop.{Stop}
use Rattle.rnc_syntax.specs.declared.fault.Stop.TheVariants.{Unexpected, TooDeep}
use Rattle.rnc_syntax.specs.declared.fault.SyntaxFault.{SyntaxFault}
use Rattle.rnc_syntax.specs.declared.fault.SyntaxFault.TheVariants as faults
use Rattle.rnc_syntax.specs.declared.syntax_tree.File as declared
use Rattle.rng_model.specs.plain.Answers.{Gives}
use Rattle.rnc_syntax.specs.views.Fault.{told, unless_memory}
use Rattle.rnc_model.specs.tokens.Cut.{Lexeme}
use Rattle.rnc_model.specs.grammar.Syntax.{File}
use Rattle.rnc_syntax.specs.views.SyntaxView.{file_of}
use Rattle.rnc_model.specs.grammar.Sentence.{nesting_limit, NestsWithin, IsStuckAt}
use Rattle.rnc_model.specs.grammar.SyntaxTrees.{BreaksGrammar, IsSyntaxTree}
use Rattle.rnc_syntax.specs.views.SentenceFaults.{IsFaultOf}
use Rattle.rnc_syntax.specs.plain.Productions.{file_with, inside_at}
use Rattle.rnc_syntax.proofs.Soundness.Files.{file_sound}
use Rattle.rnc_syntax.proofs.CompletenessFiles.{file_complete}
use Rattle.rnc_syntax.proofs.NestingDepth.{file_not_deep}

-- ---- tokens that nest within the limit

module _ (ts : List Lexeme) (nests : NestsWithin nesting_limit ts) where
  abbrev pub answer : Result File SyntaxFault
  answer = told (length ts) (file_with (inside_at nesting_limit) ts)

  tree_read : (r : Result File Stop) (f : File) → file_with (inside_at nesting_limit) ts ≡ r → told (length ts) r ≡ Ok f → IsSyntaxTree ts f
  tree_read (Err TooDeep) f read is = absurd (cc)
  tree_read (Err (Unexpected left)) f read is = absurd (cc)
  tree_read (Ok g) f read is = let same : g ≡ f = cc in subst (IsSyntaxTree ts) same (record { nesting = nests; sentence = file_sound nesting_limit ts g read })

  -- a tree that is returned is the syntax tree
  pub is_tree : (f : File) → answer ≡ Ok f → IsSyntaxTree ts f
  is_tree f is = tree_read (file_with (inside_at nesting_limit) ts) f refl is

  -- the syntax tree is the one that is returned
  pub only_tree : (f : File) → IsSyntaxTree ts f → answer ≡ Ok f
  only_tree f is = ap (told (length ts)) (file_complete nesting_limit is.sentence nests)

  no_sentence_read : (r : Result File Stop) → file_with (inside_at nesting_limit) ts ≡ r → BreaksGrammar ts → (number : ℕ)
      × (told (length ts) r ≡ Err (faults.Unexpected number))
  no_sentence_read (Err TooDeep) read is = absurd (file_not_deep nesting_limit ts nests read)
  no_sentence_read (Err (Unexpected left)) read is = (length ts - left + 1, refl)
  no_sentence_read (Ok f) read is = absurd (is.1 (f, file_sound nesting_limit ts f read))

  -- if the tokens are no sentence, this fault is returned, with a number
  pub only_grammar : BreaksGrammar ts → (number : ℕ) × (answer ≡ Err (faults.Unexpected number))
  only_grammar is = no_sentence_read (file_with (inside_at nesting_limit) ts) refl is

  module _ (stuck : (left : ℕ) → file_with (inside_at nesting_limit) ts ≡ Err (Unexpected left) → IsStuckAt ts (length ts - left + 1)) where
    fault_read : (r : Result File Stop) (e : SyntaxFault) → file_with (inside_at nesting_limit) ts ≡ r → told (length ts) r ≡ Err e → IsFaultOf ts e
    fault_read (Err TooDeep) e read is = absurd (file_not_deep nesting_limit ts nests read)
    fault_read (Err (Unexpected left)) e read is =
        let same : faults.Unexpected (length ts - left + 1) ≡ e = cc in
        subst (IsFaultOf ts) same (record { nesting = nests; stuck = stuck left read })
    fault_read (Ok f) e read is = absurd (cc)

    -- a fault that is returned is a fault of the tokens
    pub is_fault : (e : SyntaxFault) → answer ≡ Err e → IsFaultOf ts e
    is_fault e is = fault_read (file_with (inside_at nesting_limit) ts) e refl is

-- ---- what a call returned

-- a tree that is returned
pub tree_given : (ts : List Lexeme) (r : Result declared.File SyntaxFault) (w : Result File SyntaxFault) → ((f : File) → w ≡ Ok f → IsSyntaxTree ts f)
    → Gives unless_memory file_of r w → IfOk r (λ f. IsSyntaxTree ts (file_of f))
tree_given ts (Ok f) w is given = is (file_of f) given
tree_given ts (Err e) w is given = tt

-- a fault that is returned
pub fault_given : (ts : List Lexeme) (r : Result declared.File SyntaxFault) (w : Result File SyntaxFault) → ((e : SyntaxFault) → w ≡ Err e → IsFaultOf ts e)
    → Gives unless_memory file_of r w → IfErr r (IsFaultOf ts)
fault_given ts (Ok f) w is given = tt
fault_given ts (Err faults.Memory) w is given = tt
fault_given ts (Err faults.TooDeep) w is given = is faults.TooDeep given
fault_given ts (Err (faults.Unexpected number)) w is given = is (faults.Unexpected number) given

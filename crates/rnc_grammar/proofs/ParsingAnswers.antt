-- The result for tokens agrees with the definitions: their file tree, or the clause that they break.
use Rattle.std.proofs.Common.{◌≡◌, ℕ, List, map, Option, Some, None, Result, Ok, Err, IfOk, IfErr, inl, inr, refl, sym, ap, subst, ◌∙◌}
use Rattle.std.specs.List.Sorted.{IsStrictlyIncreasing}
use Rattle.rnc_syntax.specs.declared.fault.SyntaxFault.{SyntaxFault}
use Rattle.rnc_syntax.specs.declared.fault.SyntaxFault.TheVariants as syntax_faults
use Rattle.rnc_syntax.specs.declared.syntax_tree.File as written
use Rattle.rnc_syntax.specs.views.Fault as syntax_fault
use Rattle.rnc_model.specs.grammar.Grammar.{IsFile}
use Rattle.rnc_model.specs.tokens.Cut.{Lexeme, lexemes, Token}
use Rattle.rnc_syntax.specs.views.SentenceFaults as sentence_faults
use Rattle.rnc_model.specs.grammar.SyntaxTrees.{IsSyntaxTree}
use Rattle.rnc_model.specs.grammar.Syntax.{File}
use Rattle.rnc_model.specs.declarations.FileTree.{FileTree}
use Rattle.rnc_syntax.specs.views.SyntaxView as syntax
use Rattle.rnc_grammar.specs.declared.fault.ParseFault.{ParseFault}
use Rattle.rnc_grammar.specs.declared.fault.ParseFault.TheVariants as faults
use Rattle.rnc_grammar.specs.declared.file_tree.FileTree as declared
use Rattle.rnc_model.specs.declarations.DeclarationRules.{BreaksDeclarationRule}
use Rattle.rnc_model.specs.declarations.Declarations.{file_tree}
use Rattle.rnc_grammar.specs.views.Fault.{fault_of, tree_or_fault}
use Rattle.rnc_model.specs.loading.Mentions.{mention_of, mentions_of}
use Rattle.rnc_grammar.specs.views.View.{file_of}
use Rattle.rnc_model.specs.declarations.AppliedDeclarations.{tree_of_file}
use Rattle.rnc_grammar.proofs.AppliedTrees.{applied_where_made, made_where_applied}
use Rattle.rnc_grammar.proofs.DeclarationRules.{broken_where_none, kept_where_tree, none_where_broken}
use Rattle.rnc_grammar.proofs.MentionTokens.{mentions_in_order}
use Rattle.rnc_model.specs.loading.SchemaFile.{BreaksDeclarations, IsFileTree}
use Rattle.rnc_grammar.specs.views.ParsingFaults.{IsFaultOf, IsFaultOfTree, IsResolved, unless_memory}
use Rattle.rng_model.specs.plain.Answers.{Gives}

-- tokens have at most one file tree, since they have at most one syntax tree
pub one_tree : (ts : List Lexeme) → ((f g : File) → IsFile ts f → IsFile ts g → f ≡ g) → (t u : FileTree) → IsFileTree ts t → IsFileTree ts u → t ≡ u
one_tree ts one t u a b =
    let file : a.file ≡ b.file = one a.file b.file a.sentence b.sentence in
    sym a.tree ∙ ap tree_of_file file ∙ b.tree

-- read_syntax returns this
abbrev pub GivesFile : Result written.File SyntaxFault → Result File SyntaxFault → Type 0
GivesFile r answer = Gives syntax_fault.unless_memory syntax.file_of r answer

-- parse returns this
abbrev pub GivesTree : Result declared.FileTree ParseFault → Result FileTree ParseFault → Type 0
GivesTree r answer = Gives unless_memory file_of r answer

-- ---- tokens that have no syntax tree

-- the fault that is reported
pub fault_told : (ts : List Lexeme) (e : SyntaxFault) → sentence_faults.IsFaultOf ts e → IsFaultOf ts (fault_of e)
fault_told ts syntax_faults.Memory is = tt
fault_told ts syntax_faults.TooDeep is = inl (refl, is)
fault_told ts (syntax_faults.Unexpected number) is = (refl, is)

-- they have no file tree
pub no_tree : (e : SyntaxFault) (answer : Result FileTree ParseFault) (f : File) → GivesFile (Err e) (Ok f) → GivesTree (Err (fault_of e)) answer
no_tree syntax_faults.Memory answer f reads = tt
no_tree syntax_faults.TooDeep answer f reads = absurd (cc)
no_tree (syntax_faults.Unexpected number) answer f reads = absurd (cc)

pub nesting_told : (e : SyntaxFault) → GivesFile (Err e) (Err syntax_faults.TooDeep) → GivesTree (Err (fault_of e)) (Err (faults.Clause 7))
nesting_told syntax_faults.Memory reads = tt
nesting_told syntax_faults.TooDeep reads = refl
nesting_told (syntax_faults.Unexpected number) reads = absurd (cc)

pub grammar_told : (e : SyntaxFault) (number : ℕ) → GivesFile (Err e) (Err (syntax_faults.Unexpected number))
    → GivesTree (Err (fault_of e)) (Err (faults.At 6 number))
grammar_told syntax_faults.Memory number reads = tt
grammar_told syntax_faults.TooDeep number reads = absurd (cc)
grammar_told (syntax_faults.Unexpected other) number reads = let same : number ≡ other = cc in ap (λ (n : ℕ). Err (faults.At 6 n)) same

-- ---- a syntax tree

module _ (f : File) where
  abbrev answer : Result FileTree ParseFault
  answer = tree_or_fault (file_tree f)

  tree_from : (o : Option FileTree) (t : FileTree) → file_tree f ≡ o → tree_or_fault o ≡ Ok t → IsResolved f t
  tree_from None t e told = absurd (cc)
  tree_from (Some u) t e told =
      let tree : file_tree f ≡ Some t = e ∙ (let same : u ≡ t = cc in ap Some same) in record { kept = kept_where_tree f t tree; tree = tree }

  fault_from : (o : Option FileTree) (e : ParseFault) → file_tree f ≡ o → tree_or_fault o ≡ Err e → IsFaultOfTree f e
  fault_from None e none told = let same : faults.Clause 8 ≡ e = cc in subst (IsFaultOfTree f) same (refl, broken_where_none f none)
  fault_from (Some u) e tree told = absurd (cc)

  -- a tree that is returned
  pub resolved_given : (r : Result declared.FileTree ParseFault) → GivesTree r answer → IfOk r (λ t. IsResolved f (file_of t))
  resolved_given (Ok t) given = tree_from (file_tree f) (file_of t) refl given
  resolved_given (Err e) given = tt

  -- a fault that is returned
  pub broken_given : (r : Result declared.FileTree ParseFault) → GivesTree r answer → IfErr r (IsFaultOfTree f)
  broken_given (Ok t) given = tt
  broken_given (Err faults.Memory) given = tt
  broken_given (Err (faults.At clause number)) given = fault_from (file_tree f) (faults.At clause number) refl given
  broken_given (Err (faults.Clause clause)) given = fault_from (file_tree f) (faults.Clause clause) refl given

  -- the tree is unique
  pub only_resolved : (r : Result declared.FileTree ParseFault) (t : FileTree) → IsResolved f t → GivesTree r answer → GivesTree r (Ok t)
  only_resolved r t is given = subst (GivesTree r) (ap tree_or_fault is.tree) given

  -- the clause is unique
  pub only_broken : (r : Result declared.FileTree ParseFault) → BreaksDeclarationRule f → GivesTree r answer → GivesTree r (Err (faults.Clause 8))
  only_broken r broken given = subst (GivesTree r) (ap tree_or_fault (none_where_broken f broken)) given

-- ---- tokens that have this syntax tree

module _ (ts : List Lexeme) (f : File) (is : IsSyntaxTree ts f) where
  -- a tree that is returned
  pub tree_given : (r : Result declared.FileTree ParseFault) → IfOk r (λ t. IsResolved f (file_of t)) → IfOk r (λ t. IsFileTree ts (file_of t))
  tree_given (Ok t) given = record { nesting = is.nesting; file = f; sentence = is.sentence; kept = given.kept; tree = applied_where_made f (file_of t) given.tree }
  tree_given (Err e) given = tt

  -- a fault that is returned
  pub fault_given : (r : Result declared.FileTree ParseFault) → IfErr r (IsFaultOfTree f) → IfErr r (IsFaultOf ts)
  fault_given (Ok t) given = tt
  fault_given (Err faults.Memory) given = tt
  fault_given (Err (faults.At clause number)) given = absurd given
  fault_given (Err (faults.Clause clause)) given =
      inr (given.0, record { nesting = is.nesting; file = f; sentence = is.sentence; broken = given.1 })

-- the mentions of a tree that is returned
pub mentions_given : (ts : List Token) (r : Result declared.FileTree ParseFault) → IfOk r (λ t. IsFileTree (lexemes ts) (file_of t))
    → IfOk r (λ t. IsStrictlyIncreasing (map (λ m. (mention_of m).token) (mentions_of (file_of t))))
mentions_given ts (Ok t) is = mentions_in_order ts (file_of t) is
mentions_given ts (Err e) is = tt

module _ (ts : List Lexeme) (file : written.File) (only : (g : File) → IsSyntaxTree ts g → GivesFile (Ok file) (Ok g)) where
  same_tree : (g : File) → IsSyntaxTree ts g → g ≡ syntax.file_of file
  same_tree g is = let reads = only g is in cc

  -- the tree is unique
  pub only_tree : (r : Result declared.FileTree ParseFault) → ((t : FileTree) → IsResolved (syntax.file_of file) t → GivesTree r (Ok t)) → (t : FileTree)
      → IsFileTree ts t → GivesTree r (Ok t)
  only_tree r gives t is =
      let same = same_tree is.file (record { nesting = is.nesting; sentence = is.sentence }) in
      gives t (subst (λ f. IsResolved f t) same (record { kept = is.kept; tree = made_where_applied is.file t is.kept is.tree }))

  -- the clause is unique if declarations break a rule
  pub only_declarations : (r : Result declared.FileTree ParseFault) → (BreaksDeclarationRule (syntax.file_of file) → GivesTree r (Err (faults.Clause 8)))
      → BreaksDeclarations ts → GivesTree r (Err (faults.Clause 8))
  only_declarations r gives is =
      gives (subst BreaksDeclarationRule (same_tree is.file (record { nesting = is.nesting; sentence = is.sentence })) is.broken)

-- tokens with a syntax tree break neither clause 7 nor clause 6
pub no_fault : (file : written.File) (e : SyntaxFault) → GivesFile (Ok file) (Err e) → ⊥
no_fault file e reads = absurd (cc)

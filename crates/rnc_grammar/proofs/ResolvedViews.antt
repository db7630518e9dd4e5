-- Views of syntax trees and file trees: the kinds with members or parts.
use Rattle.std.proofs.Common.{◌≡◌, ℕ, map, rules, Vec, Global, List, Option, Some, None, option_map, sym, ap, ◌∙◌, Box}
use Rattle.rng_model.specs.simple.Tree.{group, choice, interleave}
use Rattle.rnc_syntax.specs.declared.syntax_tree.NameClass.{NameClass}
use Rattle.rnc_syntax.specs.declared.syntax_tree.NameClass.{the_lemmas as class_lemmas}
use Rattle.rnc_syntax.specs.declared.syntax_tree.NameClass.TheVariants as classes
use Rattle.rnc_syntax.specs.declared.syntax_tree.DatatypeName.{DatatypeName}
use Rattle.rnc_syntax.specs.declared.syntax_tree.Parameter.{Parameter}
use Rattle.rnc_syntax.specs.declared.syntax_tree.Pattern.{Pattern}
use Rattle.rnc_syntax.specs.declared.syntax_tree.Pattern.TheVariants as patterns
use Rattle.rnc_syntax.specs.declared.syntax_tree.Component.{the_lemmas}
use Rattle.rnc_model.specs.declarations.Declarations.{Scope, ◌>>=◌, class_in, pattern_in, type_in}
use Rattle.rnc_model.specs.grammar.Syntax as tree
use Rattle.rnc_model.specs.grammar.Syntax.{applied, written}
use Rattle.rnc_grammar.specs.views.Resolved.{each}
use Rattle.rnc_syntax.specs.views.SyntaxView as syntax
use Rattle.rnc_grammar.proofs.ResolvedMembers.{choice_in, members_in}

choice_class_view : (all : Vec NameClass Global) → syntax.class_of (classes.Choice all) ≡ tree.choice_of (map syntax.class_of all.items)
choice_class_view all = search (rules, class_lemmas)

group_view : (all : Vec Pattern Global) → syntax.pattern_of (patterns.Group all) ≡ tree.members group (map syntax.pattern_of all.items)
group_view all = search (rules, the_lemmas)

interleave_view : (all : Vec Pattern Global) → syntax.pattern_of (patterns.Interleave all) ≡ tree.members interleave (map syntax.pattern_of all.items)
interleave_view all = search (rules, the_lemmas)

choice_view : (all : Vec Pattern Global) → syntax.pattern_of (patterns.Choice all) ≡ tree.members choice (map syntax.pattern_of all.items)
choice_view all = search (rules, the_lemmas)

-- the members, which the code has as a slice
pub choice_class_in : (s : Scope) (ns : tree.Namespace) (all : Vec NameClass Global) (slice : List NameClass) → slice ≡ all.items
    → class_in s ns (syntax.class_of (classes.Choice all)) ≡ (each (class_in s ns) (map syntax.class_of slice) >>= λ all. Some (tree.choice_of all))
choice_class_in s ns all slice e = ap (class_in s ns) (choice_class_view all) ∙ choice_in s ns (map syntax.class_of all.items)
    ∙ ap (λ xs. each (class_in s ns) (map syntax.class_of xs) >>= λ all. Some (tree.choice_of all)) (sym e)

pub group_in : (s : Scope) (all : Vec Pattern Global) (slice : List Pattern) → slice ≡ all.items
    → pattern_in s (syntax.pattern_of (patterns.Group all)) ≡ (each (pattern_in s) (map syntax.pattern_of slice) >>= λ all. Some (tree.members group all))
group_in s all slice e = ap (pattern_in s) (group_view all) ∙ members_in group s (map syntax.pattern_of all.items)
    ∙ ap (λ xs. each (pattern_in s) (map syntax.pattern_of xs) >>= λ all. Some (tree.members group all)) (sym e)

pub interleave_in : (s : Scope) (all : Vec Pattern Global) (slice : List Pattern) → slice ≡ all.items
    → pattern_in s (syntax.pattern_of (patterns.Interleave all)) ≡ (each (pattern_in s) (map syntax.pattern_of slice)
    >>= λ all. Some (tree.members interleave all))
interleave_in s all slice e = ap (pattern_in s) (interleave_view all) ∙ members_in interleave s (map syntax.pattern_of all.items)
    ∙ ap (λ xs. each (pattern_in s) (map syntax.pattern_of xs) >>= λ all. Some (tree.members interleave all)) (sym e)

pub choice_pattern_in : (s : Scope) (all : Vec Pattern Global) (slice : List Pattern) → slice ≡ all.items
    → pattern_in s (syntax.pattern_of (patterns.Choice all)) ≡ (each (pattern_in s) (map syntax.pattern_of slice) >>= λ all. Some (tree.members choice all))
choice_pattern_in s all slice e = ap (pattern_in s) (choice_view all) ∙ members_in choice s (map syntax.pattern_of all.items)
    ∙ ap (λ xs. each (pattern_in s) (map syntax.pattern_of xs) >>= λ all. Some (tree.members choice all)) (sym e)

data_view : (d : DatatypeName) (ps : Vec Parameter Global) → syntax.pattern_of (patterns.Data d ps) ≡ tree.data_of (syntax.type_of d)
    (map syntax.parameter_of ps.items)
data_view d ps = search (rules, the_lemmas)

data_except_view : (d : DatatypeName) (ps : Vec Parameter Global) (b : Box Pattern Global)
    → syntax.pattern_of (patterns.DataExcept d ps b) ≡ tree.data_except (syntax.type_of d) (map syntax.parameter_of ps.items) (syntax.pattern_of b.value)
data_except_view d ps b = search (rules, the_lemmas)

pub plain_in : (s : Scope) (d : tree.DatatypeName written) (ps values : List (List ℕ × List ℕ)) (u : tree.DatatypeName applied) → type_in s d ≡ Some u
    → Some ps ≡ Some values → pattern_in s (tree.data_of d ps) ≡ Some (tree.data_of u values)
plain_in s d ps values u type same = rw type (ap (option_map (tree.data_of u)) same)

pub except_in : (s : Scope) (d : tree.DatatypeName written) (ps values : List (List ℕ × List ℕ)) (p : tree.PatternAt written) (u : tree.DatatypeName applied)
    (q : tree.PatternAt applied)
    → type_in s d ≡ Some u → Some ps ≡ Some values → pattern_in s p ≡ Some q → pattern_in s (tree.data_except d ps p) ≡ Some (tree.data_except u values q)
except_in s d ps values p u q type same except = rw (type, except) (ap (option_map (λ ps. tree.data_except u ps q)) same)

-- a name that is found, together with parameters
pub typed_with : {A B : Type 0} (found : Option A) (ps values : B) (u : A) → option_map {U = A × B} (λ d. (d, ps)) found ≡ Some (u, values)
    → (found ≡ Some u) × (ps ≡ values)
typed_with None ps values u e = absurd cc
typed_with {A} {B} (Some d) ps values u e =
    let same : ◌≡◌ {A = A × B} (d, ps) (u, values) = cc in (ap (λ (x : A × B). Some x.0) same, ap (λ (x : A × B). x.1) same)

-- a datatype, whose parameters the code has as a slice
pub data_in : (s : Scope) (d : DatatypeName) (ps : Vec Parameter Global) (slice : List Parameter) → slice ≡ ps.items
    → pattern_in s (syntax.pattern_of (patterns.Data d ps)) ≡ pattern_in s (tree.data_of (syntax.type_of d) (map syntax.parameter_of slice))
data_in s d ps slice e = ap (pattern_in s) (data_view d ps) ∙ ap (λ xs. pattern_in s (tree.data_of (syntax.type_of d) (map syntax.parameter_of xs))) (sym e)

pub data_except_in : (s : Scope) (d : DatatypeName) (ps : Vec Parameter Global) (b : Box Pattern Global) (slice : List Parameter) (inner : Pattern)
    → slice ≡ ps.items → inner ≡ b.value → pattern_in s (syntax.pattern_of (patterns.DataExcept d ps b))
    ≡ pattern_in s (tree.data_except (syntax.type_of d) (map syntax.parameter_of slice) (syntax.pattern_of inner))
data_except_in s d ps b slice inner e body = ap (pattern_in s) (data_except_view d ps b)
    ∙ ap (λ xs. pattern_in s (tree.data_except (syntax.type_of d) (map syntax.parameter_of xs) (syntax.pattern_of b.value))) (sym e)
    ∙ ap (λ p. pattern_in s (tree.data_except (syntax.type_of d) (map syntax.parameter_of slice) (syntax.pattern_of p))) (sym body)

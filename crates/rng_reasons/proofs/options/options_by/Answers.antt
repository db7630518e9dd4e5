use Rattle.std.proofs.Common.{◌<◌, List, All, length, map, subst, sym}
use Rattle.rng_model.specs.matching.GrammarMatching.{reading_of}
use Rattle.rng_model.specs.names.NameViews.{name_of}
use Rattle.rng_model.specs.simple.Table.{Table, grammar_of}
use Rattle.rng_model.specs.simple.Tree.{Simple}
use Rattle.rng_deriv_table.specs.views.Trees.{tree_of}
use Rattle.rng_deriv_table.specs.declared.pattern.PatternNumber.{PatternNumber}
use Rattle.rng_expected.specs.AttributeValues.{AreContents}
use Rattle.rng_expected.specs.Expectations.{IsExpected}
use Rattle.rng_expected.specs.Tags.{IsTagOf}
use Rattle.rng_expected.specs.views.Next.{next_of, tag_of}
use Rattle.rng_reasons.proofs.options.options_by.Goals as goal

pub expected-requires : goal.expected-requires
expected-requires c =
    subst (All (λ (n : PatternNumber). n.0 < length c.args.table.now)) (sym c.as_slice-3.ensures.value) c.in_ok-contents.ensures.inside

pub returns : goal.returns
returns c =
    let t = c.args.context.now.grammar.now in
    let ns = c.args.table.now in
    let tree : PatternNumber → Simple _ = λ n. tree_of t ns n.0 in
    let contents = c.in_ok-contents.contents.items in
    let Tag : List PatternNumber → Type 0 = λ ms. IsTagOf (map tree ms) (tag_of c.in_ok-tag.tag) in
    let TagBy : Table → Type 0 = λ s. IsTagOf (map (λ (n : PatternNumber). tree_of s ns n.0) c.as_slice.result.now) (tag_of c.in_ok-tag.tag) in
    let Contents : List PatternNumber → Type 0 = λ ms. AreContents (reading_of t) (map tree ms) (name_of c.args.named.now) (map tree contents) in
    let Value : List PatternNumber → Type 0 = λ ms. IsExpected (grammar_of t) (map tree ms) (next_of c.in_ok-value.value) in
    let ValueBy : Table → Type 0 = λ s. IsExpected (grammar_of s) (map (λ (n : PatternNumber). tree_of s ns n.0) c.as_slice-3.result.now) (next_of c.in_ok-value.value) in
    record {
      tag = subst Tag c.as_slice.ensures (subst TagBy c.requires.grammar c.in_ok-tag.ensures);
      value = record {
        contents = map tree contents;
        are = subst Contents c.as_slice-2.ensures c.in_ok-contents.ensures.contents;
        is = subst Value c.as_slice-3.ensures.value (subst ValueBy c.requires.grammar c.in_ok-value.ensures);
      };
    }

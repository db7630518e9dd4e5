use Rattle.std.proofs.Common.{ap, ◌∙◌}
use Rattle.rng_deriv_laws.specs.plain.Derivatives.{has_data, is_nullable}
use Rattle.rng_deriv_table.specs.plain.Facts.{has_subsequences}
use Rattle.rng_deriv_table.specs.plain.Reduced.{has_attribute}
use Rattle.rng_deriv_table.specs.views.Trees.{tree_of}
use Rattle.rng_deriv_table.proofs.KnownFacts.{all_members, all_more, depth_more, elements_more, member_more}
use Rattle.rng_deriv_table.proofs.pattern_table.PatternTable.facts_of_choice.Goals as goal

pub loop-member-preserved : goal.loop-member-preserved
loop-member-preserved c = λ t.
    let f = tree_of t c.args.self.now in
    let ms = c.args.members.now in
    let i = c.loop-member.member-index in
    let kept = c.loop-member.invariant t in
    record {
      nullable = member_more (λ m. is_nullable (f m.0)) ms i _ c.loop-member.known.nullable c.facts-facts.result.nullable c.loop-member-test.true kept.nullable
          (ap (λ (x : _). x.nullable) (c.facts-facts.ensures.exact t));
      attributes = member_more (λ m. has_attribute (f m.0)) ms i _ c.loop-member.known.attributes c.facts-facts.result.attributes c.loop-member-test.true
          kept.attributes (ap (λ (x : _). x.attributes) (c.facts-facts.ensures.exact t));
      tests_strings = member_more (λ m. has_data (f m.0)) ms i _ c.loop-member.known.tests_strings c.facts-facts.result.tests_strings c.loop-member-test.true kept.tests_strings
          (ap (λ (x : _). x.tests_strings) (c.facts-facts.ensures.exact t));
      subsequences = all_more (λ m. has_subsequences (f m.0)) ms i _ c.loop-member.known.subsequences c.facts-facts.result.subsequences
          c.loop-member-test.true kept.subsequences (ap (λ (x : _). x.subsequences) (c.facts-facts.ensures.exact t));
      elements = c.joined-known.ensures ∙ elements_more f ms i _ c.loop-member.known.elements c.facts-facts.result.elements c.loop-member-test.true
          kept.elements (ap (λ (x : _). x.elements) (c.facts-facts.ensures.exact t));
      members = kept.members;
      depth = c.max.ensures ∙ depth_more f ms i _ c.loop-member.known.depth c.facts-facts.result.depth c.loop-member-test.true
          kept.depth (ap (λ (x : _). x.depth) (c.facts-facts.ensures.exact t));
    }

pub returns : goal.returns
returns c = λ t.
    let kept = c.loop-member.invariant t in
    all_members (tree_of t c.args.self.now) c.args.members.now c.loop-member.member-index c.loop-member.known c.requires.two c.loop-member-test.false
    kept.nullable kept.attributes kept.tests_strings kept.subsequences kept.elements kept.members kept.depth

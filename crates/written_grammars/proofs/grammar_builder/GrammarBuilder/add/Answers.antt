use Rattle.std.proofs.Common.{rules, ◌≡◌, ◌++◌, ◌∷◌, [], All, length, subst, sym}
use Rattle.std.proofs.lemmas.List.Elements.{All-push}
use Rattle.rng_model.specs.simple.TableRules.{AreChildrenBelow, IsDatatypeKnown}
use Rattle.rng_model.specs.declared.type_set.TypeSet.TheVariants.{Profile}
use Rattle.rng_model.proofs.Table.{falls_after_push}
use Rattle.written_grammars.proofs.grammar_builder.GrammarBuilder.add.Goals as goal

pub invariant_of-self-else-is_err : goal.invariant_of-self-else-is_err
invariant_of-self-else-is_err c =
    let old = c.self.inside.patterns.items in
    let more : c.push.new.self.items ≡ old ++ c.args.pattern ∷ [] = search rules in
    let below : AreChildrenBelow (length old) c.args.pattern = search rules in
    let known : IsDatatypeKnown Profile c.args.pattern = search rules in (
      falls_after_push old c.push.new.self.items c.args.pattern c.self.invariant.0 more below,
      search rules,
      search rules,
      search rules,
      search rules,
      subst (All (IsDatatypeKnown Profile)) (sym more) (All-push (IsDatatypeKnown Profile) old c.args.pattern c.self.invariant.5 known),
    )

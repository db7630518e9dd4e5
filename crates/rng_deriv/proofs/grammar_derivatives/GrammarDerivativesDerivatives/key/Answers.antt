use Rattle.std.proofs.Common.{◌≡◌, ◌<◌, length, subst, sym}
use Rattle.rng_model.specs.names.NameViews.{name_of}
use Rattle.rng_names.specs.plain.Keys.{Keys, key_of}
use Rattle.rng_deriv.proofs.BoxedLearning.{keys_seen}
use Rattle.rng_deriv.proofs.grammar_derivatives.GrammarDerivativesDerivatives.key.Goals as goal

pub returns-clause-key : goal.returns-clause-key
returns-clause-key c =
    let d = c.self.inside in
    let seen = keys_seen d.grammar.now c.args.self.now d.learned.value c.deref-learned.result.now c.deref-learned.ensures c.self.view_is in
    subst (λ (k : Keys). key_of k (name_of c.args.name.now) ≡ c.key.result.0) seen (sym c.key.ensures.key)

pub returns-clause-inside : goal.returns-clause-inside
returns-clause-inside c =
    let d = c.self.inside in
    let seen = keys_seen d.grammar.now c.args.self.now d.learned.value c.deref-learned.result.now c.deref-learned.ensures c.self.view_is in
    subst (λ (k : Keys). c.key.result.0 < length k.names) seen c.key.ensures.inside

use Rattle.std.proofs.Common.{◌≡◌, ◌∙◌, ap, subst, sym}
use Rattle.rng_model.specs.names.NameViews.{name_of}
use Rattle.rng_names.specs.plain.Keys.{Keys, key_of}
use Rattle.rng_deriv.proofs.BoxedLearning.{keys_seen}
use Rattle.rng_deriv.proofs.grammar_derivatives.GrammarDerivativesDerivatives.is_key.Goals as goal

pub returns : goal.returns
returns c = λ e.
    let d = c.self.inside in
    let l = c.deref-learned.result.now in
    let seen = keys_seen d.grammar.now c.args.self.now d.learned.value l c.deref-learned.ensures c.self.view_is in
    let same : name_of c.args.name.now ≡ name_of c.name.result.now = sym (c.is_same_name.ensures.0 e) in
    subst (λ (k : Keys). key_of k (name_of c.args.name.now) ≡ c.args.key.0) seen (ap (key_of l.keys) same ∙ c.name.ensures.own)

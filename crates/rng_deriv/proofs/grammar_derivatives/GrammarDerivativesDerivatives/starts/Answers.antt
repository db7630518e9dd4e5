use Rattle.std.proofs.Common.{◌≡◌, ◌<◌, List, ap, length, subst, sym}
use Rattle.rng_model.specs.simple.Table.{Table}
use Rattle.rng_names.specs.plain.Keys.{Keys, key_of, name_at}
use Rattle.rng_deriv_table.specs.views.Node.{Node}
use Rattle.rng_deriv_table.specs.views.Trees.{tree_of, trees}
use Rattle.rng_deriv_table.specs.declared.pattern.PatternNumber.{PatternNumber}
use Rattle.rng_deriv_table.proofs.Trees.{Longer-trans}
use Rattle.rng_deriv_ways.specs.plain.Ways.{ways_by}
use Rattle.rng_deriv_ways.specs.plain.Starting.{AreStarts}
use Rattle.rng_deriv_ways.specs.declared.way.LeafWay as numbered
use Rattle.rng_deriv_events.specs.views.Numbers as table
use Rattle.rng_deriv.specs.views.Serving.{seen_of}
use Rattle.rng_deriv.proofs.BoxedLearning.{keys_seen, opened}
use Rattle.rng_deriv.specs.views.Starts.{OpensLike}
use Rattle.rng_deriv_ways.proofs.KnownWays.{all_longer}
use Rattle.rng_deriv.proofs.KeptStarts.{for_each_name, serves_longer}
use Rattle.rng_deriv.proofs.ServedTables.{below_there, seen_there, starts_added, there_served, trees_longer}
use Rattle.rng_deriv.proofs.grammar_derivatives.GrammarDerivativesDerivatives.starts.Goals as goal

pub start-requires-clause-inside : goal.start-requires-clause-inside
start-requires-clause-inside c =
    let d = c.self.inside in
    let t = d.grammar.now in
    let l = c.deref_mut-learned.result.now in
    let o = opened t (seen_of c.args.self.now) d.learned.value l c.deref_mut-learned.ensures.value c.self.invariant (ap seen_of c.self.view_is) in
    below_there t l.lost l.table (seen_of c.args.self.now) c.if-learned.false o.seen_is c.args.pattern
    c.requires.inside

pub start-requires-clause-key : goal.start-requires-clause-key
start-requires-clause-key c =
    let d = c.self.inside in
    let t = d.grammar.now in
    let l = c.deref_mut-learned.result.now in
    let seen = keys_seen t c.args.self.now d.learned.value l c.deref_mut-learned.ensures.value c.self.view_is in
    subst (λ (k : Keys). c.args.key.0 < length k.names) (sym seen) c.requires.key

pub start-requires-clause-known : goal.start-requires-clause-known
start-requires-clause-known c =
    let d = c.self.inside in
    let t = d.grammar.now in
    let l = c.deref_mut-learned.result.now in
    let o = opened t (seen_of c.args.self.now) d.learned.value l c.deref_mut-learned.ensures.value c.self.invariant (ap seen_of c.self.view_is) in
    let old = l.table in
    c.count_start.ensures t l.keys old
    (there_served t l.keys l.lost old l.numbers.items l.known c.if-learned.false o.serves).2

pub invariant_of-self-2 : goal.invariant_of-self-2
invariant_of-self-2 c =
    let d = c.self.inside in
    let t = d.grammar.now in
    let l = c.deref_mut-learned.result.now in
    let o = opened t (seen_of c.args.self.now) d.learned.value l c.deref_mut-learned.ensures.value c.self.invariant (ap seen_of c.self.view_is) in
    let old = l.table in
    let middle = c.start.new.table in
    let new = c.joined_ways.new.table in
    let numbers = l.numbers.items in
    let longer = Longer-trans old middle new c.in_ok-ways.ensures.longer c.in_ok-starts.ensures.longer in
    let served = there_served t l.keys l.lost old numbers l.known c.if-learned.false o.serves in
    serves_longer t old new l.keys longer numbers l.known served c.start.new.known
    (all_longer t l.keys middle new c.in_ok-starts.ensures.longer c.start.new.known c.in_ok-ways.ensures.known)

pub returns-clause-longer : goal.returns-clause-longer
returns-clause-longer c =
    let d = c.self.inside in
    let t = d.grammar.now in
    let l = c.deref_mut-learned.result.now in
    let o = opened t (seen_of c.args.self.now) d.learned.value l c.deref_mut-learned.ensures.value c.self.invariant (ap seen_of c.self.view_is) in
    let old = l.table in
    let middle = c.start.new.table in
    let new = c.joined_ways.new.table in
    subst (λ (s : Table × List Node). table.Longer (trees s.0 s.1) (trees t new))
    (seen_there t l.lost old (seen_of c.args.self.now) c.if-learned.false o.seen_is)
    (trees_longer t old new (Longer-trans old middle new c.in_ok-ways.ensures.longer c.in_ok-starts.ensures.longer))

pub returns-clause-starts : goal.returns-clause-starts
returns-clause-starts c = λ r named.
    let d = c.self.inside in
    let t = d.grammar.now in
    let l = c.deref_mut-learned.result.now in
    let o = opened t (seen_of c.args.self.now) d.learned.value l c.deref_mut-learned.ensures.value c.self.invariant (ap seen_of c.self.view_is) in
    let old = l.table in
    let middle = c.start.new.table in
    let new = c.joined_ways.new.table in
    let numbers = l.numbers.items in
    let v = seen_of c.args.self.now in
    let q = name_at l.keys c.args.key.0 in
    let there = c.if-learned.false in
    let seen = seen_there t l.lost old v there o.seen_is in
    let served = there_served t l.keys l.lost old numbers l.known there o.serves in
    let key : c.args.key.0 ≡ key_of l.keys r =
    sym (subst (λ (k : Keys). key_of k r ≡ c.args.key.0)
    (sym (keys_seen t c.args.self.now d.learned.value l c.deref_mut-learned.ensures.value c.self.view_is)) named) in
    for_each_name t l.keys served.1 old new v seen r c.args.key.0 key c.args.pattern c.in_ok-starts.starts.items
    (starts_added t old middle new v seen numbers q c.args.pattern
    c.in_ok-ways.ways.items c.in_ok-starts.starts.items c.in_ok-ways.ensures.longer c.in_ok-starts.ensures.longer served.0
    (subst (λ (ns : List PatternNumber). AreStarts t middle ns (tree_of t old c.args.pattern.0) q c.in_ok-ways.ways.items)
    c.as_slice-numbers.ensures.value c.in_ok-ways.ensures.starts)
    (subst (λ (ws : List numbered.LeafWay). OpensLike t new (ways_by (tree_of t middle) ws) c.in_ok-starts.starts.items) c.as_slice.ensures
    (c.in_ok-starts.ensures.ways t))
    c.requires.inside)

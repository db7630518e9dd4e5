use Rattle.std.proofs.Common.{rules, ◌≡◌, ◌∙◌, [], ◌∷◌, subst, sym, true, true≢false}
use Rattle.std.proofs.lemmas.List.{length-set}
use Rattle.rng_rules.specs.plain.NamesMeetReach.{lists}
use Rattle.rng_rules.specs.views.NamesMeetHeads.{MeetsItself}
use Rattle.rng_rules.specs.views.NamesMeetSides.{MeetBetween}
use Rattle.rng_rules.proofs.NamesMeetSearch.{marked_more}
use Rattle.rng_rules.proofs.names_meet_search.Search.meets_itself.Goals as goal

pub returns-clause-search : goal.returns-clause-search
returns-clause-search c =
    let rows = c.args.rows.now in
    let was = c.requires.search in
    let asked : c.as_slice-asked.result.now ≡ c.args.row ∷ [] = search rules in
    let apart = c.args.self.now.apart.items in record {
      long = was.long;
      heads = was.heads;
      apart_long = length-set apart c.args.row true ∙ was.apart_long;
      apart = marked_more (λ k. ¬ (MeetsItself c.args.rows.now k)) apart c.args.row was.apart
          (λ m. true≢false (sym (c.in_ok-meet.ensures.all (subst (λ ks. MeetBetween rows.of rows.grammar.now (lists rows.above.items) ks ks) (sym asked) m))
          ∙ c.if-branch.false));
      marks = c.in_ok-meet.ensures.marks;
    }

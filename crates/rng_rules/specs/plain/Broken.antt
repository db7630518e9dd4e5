-- The clauses that the parts of a grammar break, of those that a part breaks by itself.
use Rattle.std.specs.Prelude.{ℕ, ◌≤◌, List, map, fold, Option, Some, None, Bool, true, false, not, ◌&&◌, ◌||◌}
use Rattle.rng_model.specs.restrictions.Restrictions.{BreaksRestriction}
use Rattle.rng_model.specs.simple.Grammar.{Grammar}
use Rattle.rng_rules.specs.plain.Facts.{facts_of}
use Rattle.rng_rules.specs.declared.broken.Broken.{Broken}
use Rattle.rng_rules.specs.declared.content.ContentType.{ContentType}
use Rattle.rng_rules.specs.declared.facts.Facts.{Facts}

abbrev pub either_broken : Broken → Broken → Broken
either_broken a b = record {
  attribute = a.attribute || b.attribute;
  one_or_more = a.one_or_more || b.one_or_more;
  list = a.list || b.list;
  except = a.except || b.except;
  start = a.start || b.start;
  content = a.content || b.content;
  wildcard = a.wildcard || b.wildcard;
  text = a.text || b.text;
}

abbrev pub has_none : Option ContentType → Bool
has_none None = true
has_none (Some t) = false

abbrev pub part_broken : Bool → Bool → Facts → Broken
part_broken start content f = record {
  attribute = f.held.breaks_attribute;
  one_or_more = f.held.breaks_one_or_more;
  list = f.held.breaks_list;
  except = f.held.breaks_except;
  start = start;
  content = content;
  wildcard = f.unrepeated_wildcard;
  text = f.breaks_text;
}

abbrev pub start_broken : Facts → Broken
start_broken f = part_broken f.held.barred_from_start false f

abbrev pub body_broken : Facts → Broken
body_broken f = part_broken false (not f.not_allowed && has_none f.content) f

-- the clauses that a start or one of some bodies breaks
abbrev pub parts_broken : Facts → List Facts → Broken
parts_broken start bodies = fold (λ b f. either_broken b (body_broken f)) (start_broken start) bodies

abbrev pub grammar_broken : Grammar → Broken
grammar_broken g = parts_broken (facts_of g.start) (map (λ e. facts_of e.1) g.elements)

-- no clause below n is broken
abbrev pub IsIntactBelow : Grammar → ℕ → Type 0
IsIntactBelow g n = (clause : ℕ) → BreaksRestriction g clause → n ≤ clause

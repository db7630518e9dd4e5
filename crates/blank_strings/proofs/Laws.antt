-- The theorems of this crate.
use Rattle.std.proofs.Common.{◌≡◌, ◌↔◌, ℕ, List, [], ◌∷◌, ◌++◌, Ok, Err, sym, ap, ◌∙◌, subst, true, false}
use Rattle.std.proofs.lemmas.List.Elements.{All-from_recursion, recursion_from_All}
use Rattle.rng_model.specs.names.Names.{Name}
use Rattle.rng_model.specs.simple.Grammar.{Grammar}
use Rattle.rng_model.specs.matching.Document.{Attribute, Item, an_element, Items}
use Rattle.rng_model.specs.matching.GrammarMatching.{IsValidBy}
use Rattle.rng_model.specs.plain.WellFormed.{IsWellFormed}
use Rattle.rng_model.specs.datatypes.Texts.{TextTests, texts_of}
use Rattle.rng_model.specs.restrictions.RestrictionFaults.{BreaksNone}
use Rattle.rng_model.specs.xsd.SchemasWith.{in_restriction, BreaksNoClauseWith, IsValidBySchemaWith}
use Rattle.rng_model.specs.simple.Table.{Table, grammar_of}
use Rattle.rng_model.specs.xsd.TypeSets.{tests_in}
use Rattle.rng_model.specs.documents.PyxTrees.{Event, Placed, item_of}
use Rattle.rng_model.specs.documents.Telling.{IsGood, events_told, TellsDocument}
use Rattle.rng_model.specs.schema.Schema.{Schema}
use Rattle.rng_model.specs.declared.outcome.Outcome.TheVariants as outcome
use Rattle.rng_model.specs.declared.type_set.TypeSet.{TypeSet}
use Rattle.rncv_model.specs.answers.Verdict.{IsUnknownIn, StartsUnknown}
use Rattle.element_events.specs.declared.fault.EventFault.TheVariants as faults
use Rattle.element_events.specs.views.Told.{call}
use Rattle.element_events.proofs.Walks.{same_item}
use Rattle.rncv_validator.specs.views.Validators.{JudgesWith}
use Rattle.rncv_events.specs.Answers.{AreHopelessFrom, TellValid}
use Rattle.rng_deriv_laws.specs.plain.Laws.{reading}
use Rattle.rng_deriv_laws.specs.plain.States.{finished, after_of, after_item, accepts}
use Rattle.rng_deriv_laws.proofs.TakesAndMatches.{takes_in, takes_out}
use Rattle.rng_deriv_laws.proofs.Restricted.{start_restricted, bodies_restricted}
use Rattle.rng_deriv_laws.proofs.Document.{root_in, root_out}
use Rattle.blank_strings.specs.LeftOut.{LeavesOutBlanks, same_string, same_tag}
use Rattle.blank_strings.specs.LeftOutCalls.{LeaveOutTexts}
use Rattle.blank_strings.specs.Laws.{StaysWellFormed, StaysValid, StaysValidBySchema, StaysTold, StaysHopeless, StaysAnswered}
use Rattle.blank_strings.proofs.WellFormed.{formed}
use Rattle.blank_strings.proofs.Derivatives.{same_after}
use Rattle.blank_strings.proofs.Events.{LeaveOutStrings, left_out_strings, all_stay_so}
use Rattle.blank_strings.proofs.Fronts.{front_of}
use Rattle.blank_strings.proofs.Trees.{left_document}

pub stays_well_formed : StaysWellFormed
stays_well_formed d e o f = formed o f

module _ (g : Grammar) (keeps : BreaksNone g) (tests : TextTests) where
  -- the state after the element, as the root, accepts
  Accepts : Item → Type 0
  Accepts root = accepts (after_item (reading g tests) root (after_of g.start finished)) ≡ true

  accepted : (q : Name) (xs : List Attribute) (kids : Items) → IsWellFormed (an_element q xs kids) → IsValidBy g (texts_of tests) (an_element q xs kids)
      → Accepts (an_element q xs kids)
  unfolding Accepts
  accepted q xs kids f v =
      root_in (reading g tests) (bodies_restricted g keeps) g.start (start_restricted g keeps) q xs kids f
      (takes_in (reading g tests) g.start [] (an_element q xs kids ∷ []) v)

  valid_if : (q : Name) (xs : List Attribute) (kids : Items) → IsWellFormed (an_element q xs kids) → Accepts (an_element q xs kids)
      → IsValidBy g (texts_of tests) (an_element q xs kids)
  unfolding Accepts
  valid_if q xs kids f a =
      takes_out (reading g tests) g.start [] (an_element q xs kids ∷ [])
      (root_out (reading g tests) (bodies_restricted g keeps) g.start (start_restricted g keeps) q xs kids f a)

  same_accepts : {d e : Item} → LeavesOutBlanks d e → accepts (after_item (reading g tests) d (after_of g.start finished))
      ≡ accepts (after_item (reading g tests) e (after_of g.start finished))
  same_accepts o = ap accepts (same_after (reading g tests) o (after_of g.start finished))

  same_valid : (d e : Item) → LeavesOutBlanks d e → IsWellFormed d → IsValidBy g (texts_of tests) d ↔ IsValidBy g (texts_of tests) e
  unfolding Accepts
  same_valid d e same_string f = (λ v. v, λ v. v)
  same_valid d e (same_tag {q} {xs} {kids} {rest} o) f =
      let left : LeavesOutBlanks (an_element q xs kids) (an_element q xs rest) = same_tag o in
      let same = same_accepts left in
      let h = formed left f in
      (λ v. valid_if q xs rest h (sym same ∙ accepted q xs kids f v), λ v. valid_if q xs kids f (same ∙ accepted q xs rest h v))

pub stays_valid : StaysValid
stays_valid g keeps tests d e o f = same_valid g keeps tests d e o f

pub stays_valid_by_schema : StaysValidBySchema
stays_valid_by_schema types s g judges good d e o f =
    let v = stays_valid (grammar_of g) (λ clause b. good clause (in_restriction judges.form b)) (tests_in types) d e o f in
    (λ x. (judges.documents e).0 (v.0 ((judges.documents d).1 x)), λ x. (judges.documents d).0 (v.1 ((judges.documents e).1 x)))

pub stays_told : StaysTold
stays_told calls rest o d t =
    let strings = subst (λ es. LeaveOutStrings false es (events_told rest)) t.events (left_out_strings o 0) in
    let left = left_document d t.element (events_told rest) strings in (
      left.rest,
      record {
        good = all_stay_so (λ (c : Event). IsGood c.kind) o t.good;
        element = left.is_element;
        formed = formed left.leaves_out t.formed;
        events = sym left.events;
      },
      left.leaves_out,
    )

module _ (types : TypeSet) (s : Schema) (g : Table) (judges : JudgesWith types g s) (good : BreaksNoClauseWith types s) where
  abbrev IsValid : Item → Type 0
  IsValid = IsValidBySchemaWith types s

  still_valid : (calls rest : List Event) → LeaveOutTexts false calls rest → TellValid IsValid calls → TellValid IsValid rest
  still_valid calls rest o (d, t, v) =
      let (e, u, left) = stays_told calls rest o d t in
      (e, u, (stays_valid_by_schema types s g judges good (item_of d) (item_of e) left t.formed).0 v)

  was_valid : (calls rest : List Event) → LeaveOutTexts false calls rest → (d : Placed) → TellsDocument calls d → TellValid IsValid rest → IsValid (item_of d)
  was_valid calls rest o d t (other, u, v) =
      let (e, told, left) = stays_told calls rest o d t in
      let same : other ≡ e = (same_item other e [] [] (ap (λ l. l ++ []) (sym u.events ∙ told.events))).0 in
      (stays_valid_by_schema types s g judges good (item_of d) (item_of e) left t.formed).1 (subst (λ x. IsValid (item_of x)) same v)

  KnowsStart : Event → Type 0
  KnowsStart c = ¬ (StartsUnknown (IsUnknownIn s) c.kind)

  hopeless : (calls rest : List Event) → LeaveOutTexts false calls rest → (place : ℕ) → AreHopelessFrom IsValid (IsUnknownIn s) rest place
      → AreHopelessFrom IsValid (IsUnknownIn s) calls place
  unfolding KnowsStart
  hopeless calls rest o place h =
      let f = front_of KnowsStart (λ n s u. u) o h.before (call place h.kind) h.behind h.parts in
      record {
        before = f.front;
        kind = h.kind;
        behind = f.behind;
        parts = f.parts;
        cannot = λ more v. h.cannot more (still_valid _ _ (f.again more) v);
        known = All-from_recursion KnowsStart f.front (f.so (recursion_from_All KnowsStart h.before h.known));
      }

pub stays_hopeless : StaysHopeless
stays_hopeless types s g judges good calls rest o place h = hopeless types s g judges good calls rest o place h

pub stays_answered : StaysAnswered
stays_answered types s g judges good calls rest o d t (Ok outcome.Valid) a = (d, t, was_valid types s g judges good calls rest o d t a)
stays_answered types s g judges good calls rest o d t (Ok (outcome.Invalid place)) a = ((d, t), hopeless types s g judges good calls rest o place a.1)
stays_answered types s g judges good calls rest o d t (Err faults.NotWellFormed) a = let r = stays_told calls rest o d t in absurd (a r.0 r.1)
stays_answered types s g judges good calls rest o d t (Err faults.Memory) a = tt

use Rattle.std.proofs.Common.{◌≡◌, ◌<◌, ◌∙◌, ap, ap₂, refl, ℕ, max, List, length, map, Option, Some, IfOk, slice_get, string_bytes, arith, rules}
use Rattle.std.proofs.lemmas.Result.{IfOk-weaker}
use Rattle.rng_model.specs.names.Names.{NameClass}
use Rattle.rng_model.specs.names.NameViews.{name_of}
use Rattle.rng_names.specs.plain.Holding.{pair}
use Rattle.rng_names.specs.plain.Written.{longest}
use Rattle.rng_names.specs.views.GrammarClasses.{seen_class}
use Rattle.rng_names.specs.plain.Regions.{HoldsAlike, sorted_in}
use Rattle.rng_names.specs.views.KeyTables.{AreMade, AreTables, ServesAll, keys_in, places_in}
use Rattle.rng_names.specs.plain.WrittenNames.{Knows, written_in}
use Rattle.rng_names.proofs.CollectedNames.{still_known}
use Rattle.rng_names.proofs.Regions.{still_alike_known}
use Rattle.rng_names.proofs.ServingKeys.{are_places, serves_all}
use Rattle.rng_names.proofs.key_tables.Tables.of_classes.Goals as goal

pub returns : goal.returns
returns c =
    let state = c.add_classes.new.self in
    let last = c.add_classes-2.new.self in
    let w = written_in last in
    let fresh = string_bytes c.in_ok-text.text in
    let fresh_is : name_of c.in_ok-fresh.fresh ≡ pair fresh fresh = c.in_ok-fresh.ensures ∙ ap₂ pair c.as_str.ensures.value c.as_str-2.ensures.value in
    let grows = c.in_ok-add_classes.ensures.grows in
    let grows' = c.in_ok-add_classes-2.ensures.grows in
    let first : slice_get w.names 0 ≡ Some (pair fresh fresh) =
    grows'.names 0 (pair fresh fresh) (grows.names 0 (pair fresh fresh) (c.in_ok-written.ensures.first ∙ ap Some fresh_is)) in
    let most : c.max-bytes.result ≡ max c.longest_among.result c.longest_among-2.result = search rules in
    let longer : c.max-bytes.result < length fresh = c.in_ok-text.ensures in
    let elements = map seen_class c.args.elements.now in
    let attributes = map seen_class c.args.attributes.now in
    let sorts = c.in_ok-add_classes.ensures.sorts c.in_ok-written.ensures.begun in
    let sorts' = c.in_ok-add_classes-2.ensures.sorts sorts.extends.begun in
    let less : (k : ℕ) (d : NameClass) → slice_get elements k ≡ Some (Some d) → longest d < length fresh =
    λ k d e. omega (arith, c.longest_among.ensures k d e, most, longer) in
    let less' : (k : ℕ) (d : NameClass) → slice_get attributes k ≡ Some (Some d) → longest d < length fresh =
    λ k d e. omega (arith, c.longest_among-2.ensures k d e, most, longer) in
    let known : (k : ℕ) (d : NameClass) → slice_get elements k ≡ Some (Some d) → Knows w d =
    λ k d e. still_known (written_in state) w d grows' (c.in_ok-add_classes.ensures.knows k d e) in
    let alike : (k : ℕ) (d : NameClass) → slice_get elements k ≡ Some (Some d) → HoldsAlike (sorted_in last.names) 0 d =
    λ k d e. still_alike_known 0 d (sorted_in state.names) (sorted_in last.names) (written_in state) refl sorts.extends.begun sorts'.extends
    (c.in_ok-add_classes.ensures.knows k d e) (sorts.alike k d e) in
    let serve : (classes : List (Option NameClass)) → ((k : ℕ) (d : NameClass) → slice_get classes k ≡ Some (Some d) → longest d < length fresh)
    → ((k : ℕ) (d : NameClass) → slice_get classes k ≡ Some (Some d) → Knows w d)
    → ((k : ℕ) (d : NameClass) → slice_get classes k ≡ Some (Some d) → HoldsAlike (sorted_in last.names) 0 d)
    → IfOk c.of_written.result (λ all. ServesAll (keys_in all) classes) =
    λ classes l k a. IfOk-weaker c.of_written.result (AreMade last) (λ all. ServesAll (keys_in all) classes)
    (λ all made. serves_all w (places_in all.places) made.told fresh (made.told.names 0 (pair fresh fresh) first) all.shared made.shared
    (sorted_in last.names) sorts'.extends.begun.count refl made.led classes l k a) c.of_written.ensures in
    record {
      keys = IfOk-weaker c.of_written.result (AreMade last) AreTables
          (λ all made. record {
            places = are_places w (places_in all.places) (pair fresh fresh) made.told (made.told.names 0 (pair fresh fresh) first);
            shared = made.shared;
          }) c.of_written.ensures;
      elements = serve elements less known alike;
      attributes = serve attributes less' c.in_ok-add_classes-2.ensures.knows sorts'.alike;
    }

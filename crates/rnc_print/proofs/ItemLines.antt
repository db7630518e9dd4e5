-- The items of a grammar, line by line.
use Rattle.std.proofs.Common.{◌≡◌, ◌∙◌, ℕ, ◌+◌, ◌≤◌, ◌<◌, List, [], ◌∷◌, ◌++◌, length, take, flat_map, sym, ap, subst, get_or, arith}
use Rattle.std.specs.List.{AllByRecursion}
use Rattle.std.proofs.lemmas.List.{append-nil, length-map, take_all, take_more, take-append-le}
use Rattle.std.proofs.Math.ListN.{get_or-map}
use Rattle.rng_model.specs.simple.Table.{Table, grammar_of}
use Rattle.rncv_model.specs.printed.Items.{and_new, first_times, IsReached, at_start, in_line, IsItemsOf, named_item, mentions, same_item}
use Rattle.rncv_model.specs.printed.Items as text
use Rattle.rnc_print.specs.views.Items.{AreItems, item_at, items_seen}
use Rattle.rnc_print.specs.declared.items.Item.{Item}
use Rattle.rnc_print.specs.declared.items.Items.{Items}
use Rattle.rnc_print.proofs.SameTests.{item_exact, item_itself}
use Rattle.rnc_print.proofs.ListLookups.{each_at}
use Rattle.rnc_print.proofs.Numberings.{all_each, and_all, and_fresh, fresh, written_more}

module _ (t : Table) where
  abbrev first : List text.PrintedItem
  first = named_item (grammar_of t).start

  abbrev line : text.PrintedItem → List text.PrintedItem
  line = mentions (grammar_of t)

  abbrev written : List text.PrintedItem → List text.PrintedItem
  written done = first_times same_item (first ++ flat_map line done)

  -- the first n of the items have their lines
  pub record HaveLines (items : Items) (n : ℕ) : Type 0 where
    pub are : AreItems t items
    pub order : items_seen t items ≡ written (take n (items_seen t items))
    pub reached : AllByRecursion (IsReached same_item first line) (items_seen t items)

  pub none_yet : (items : Items) → AreItems t items → items_seen t items ≡ and_new same_item [] first → HaveLines items 0
  none_yet items h e = record {
    are = h;
    order = e ∙ ap (first_times same_item) (sym (append-nil first));
    reached = subst (AllByRecursion (IsReached same_item first line)) (sym e)
        (and_all same_item item_exact item_itself first line (IsReached same_item first line) [] first tt
        (all_each (IsReached same_item first line) first (λ a c. at_start c)));
  }

  -- one line more
  pub one_line : (old new : Items) (n : ℕ) (x : Item) → HaveLines old n → n < length old.all.items → get_or old.all.items n x ≡ x → AreItems t new
      → items_seen t new ≡ and_new same_item (items_seen t old) (line (item_at t x)) → HaveLines new (n + 1)
  one_line old new n x h l is items added =
      let xs = items_seen t old in
      let a = item_at t x in
      let long : n < length xs = subst (λ m. n < m) (sym (length-map old.all.items (item_at t))) l in
      let at : get_or xs n a ≡ a = get_or-map (item_at t) old.all.items n x ∙ ap (item_at t) is in
      let front : take (n + 1) (items_seen t new) ≡ take n xs ++ a ∷ [] =
      ap (take (n + 1)) (added ∙ and_fresh same_item item_exact item_itself xs (line a))
      ∙ take-append-le (n + 1) xs (fresh same_item item_exact item_itself xs (line a)) (omega (arith, long))
      ∙ take_more xs n a long ∙ ap (λ y. take n xs ++ y ∷ []) at in
      record {
        are = items;
        order =
            added ∙ ap (λ ys. and_new same_item ys (line a)) h.order
            ∙ ap (and_new same_item (written (take n xs))) (sym (append-nil (line a)))
            ∙ sym (written_more same_item item_exact item_itself first line (take n xs) (a ∷ []))
            ∙ ap written (sym front);
        reached = subst (AllByRecursion (IsReached same_item first line)) (sym added)
            (and_all same_item item_exact item_itself first line (IsReached same_item first line) xs (line a) h.reached
            (all_each (IsReached same_item first line) (line a)
            (λ b c. in_line (subst (IsReached same_item first line) at (each_at (IsReached same_item first line) xs n a h.reached long)) c)));
      }

  -- all have their lines
  pub all_lines : (items : Items) (n : ℕ) → HaveLines items n → length items.all.items ≤ n → IsItemsOf (grammar_of t) (items_seen t items)
  all_lines items n h l = record {
    in_order = h.order ∙ ap written (take_all n (items_seen t items) (subst (λ m. m ≤ n) (sym (length-map items.all.items (item_at t))) l));
    reached = h.reached;
  }

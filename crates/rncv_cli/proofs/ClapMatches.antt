-- What the caller gets from clap's matches, given their rows.
use Rattle.std.proofs.Common.{◌≡◌, ◌∙◌, ap, refl, Bool, true, false, List, [], ◌∷◌, map, Option, Some, None, option_map, option_and_then, find, slice_get}
use Rattle.std.proofs.Common.{if◌then◌else◌}
use Rattle.std.specs.Str.{bytes_eq}
use Rattle.std.specs.Borrow.{Bor}
use Rattle.clap.specs.Words.{Text, all_of, first_of, first_value, matched_of, raw_values, rows_of, Row}
use Rattle.clap.specs.Facts.{Entry}
use Rattle.clap.specs.Walk.{row_of}
use Rattle.clap.specs.declared.parser.matches.Found.{Found}

-- what is found in the rows is found in the entries
module _ (id : Text) where
  one_more : (b : Bool) (e : Entry) (found : Option Entry) (rows : Option Row) → rows ≡ option_map row_of found →
      (if b then Some (row_of e) else rows) ≡ option_map row_of (if b then Some e else found)
  one_more true e found rows same = refl
  one_more false e found rows same = same

  found_in_rows : (entries : List Entry) → find (λ r. bytes_eq r.id id) (map row_of entries) ≡ option_map row_of (find (λ e. bytes_eq e.0.now id) entries)
  found_in_rows [] = refl
  found_in_rows (e ∷ rest) = one_more (bytes_eq e.0.now id) e _ _ (found_in_rows rest)

  all_of_found : (found : Option Entry) → option_map (λ r. r.values) (option_map row_of found) ≡ option_map raw_values (option_map (λ e. e.1) found)
  all_of_found None = refl
  all_of_found (Some e) = refl

  pub all_is_raw : (f : Found) → all_of id (rows_of f) ≡ option_map raw_values (matched_of f id)
  all_is_raw f = ap (option_map (λ r. r.values)) (found_in_rows f.entries.items) ∙ all_of_found (find (λ e. bytes_eq e.0.now id) f.entries.items)

  first_in : (xs : List (Bor Text)) → slice_get (map (λ s. s.now) xs) 0 ≡ option_map (λ s. s.now) (slice_get xs 0)
  first_in [] = refl
  first_in (x ∷ xs) = refl

  first_of_found : (found : Option Entry) → option_and_then (λ r. slice_get r.values 0)
      (option_map row_of found) ≡ option_and_then (λ a. option_map (λ s. s.now) (slice_get a.vals.items 0)) (option_map (λ e. e.1) found)
  first_of_found None = refl
  first_of_found (Some e) = first_in e.1.vals.items

  pub first_is_value : (f : Found) → first_of id (rows_of f) ≡ first_value f id
  first_is_value f = ap (option_and_then (λ r. slice_get r.values 0))
      (found_in_rows f.entries.items) ∙ first_of_found (find (λ e. bytes_eq e.0.now id) f.entries.items)

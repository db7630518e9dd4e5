-- The printed text of a printable grammar is read back.
use Rattle.std.proofs.Common.{ℕ, ◌≤◌, ◌<◌, ◌^◌, List, length, map, sym, subst, arith}
use Rattle.rng_model.specs.simple.Grammar.{Grammar}
use Rattle.rncv_model.specs.printed.Items.{PrintedItem, IsItemsOf}
use Rattle.rncv_model.specs.printed.PrintedText.{namespaces, text_of, IsPrinted}
use Rattle.rnc_model.specs.characters.Decoding.{IsDecoded}
use Rattle.rnc_model.specs.tokens.Cut.{tokens_at, Lexeme}
use Rattle.rnc_model.specs.loading.SchemaFile.{IsFileTree}
use Rattle.rnc_print_laws.specs.plain.Printable.{IsPrintable}
use Rattle.rnc_text.specs.plain.Marks.{characters_of_marks, piece_of_mark, MarksAreCut, MarksAreDecoded}
use Rattle.rnc_print_laws.specs.plain.LinesTree.{lines_tree}
use Rattle.rnc_print_laws.specs.views.ReadBack.{IsReadAs}
use Rattle.rnc_print_laws.proofs.ReadBack.FewItems.{items_few}
use Rattle.rnc_print_laws.proofs.Marks.MarksText.{text_is}
use Rattle.rnc_print_laws.proofs.ReadBack.LineConditions.{items_printable, tokens_read}
use Rattle.rnc_print_laws.proofs.Marks.SpelledMarks.{marks_are_decoded, marks_have_tokens, tokens_are}
use Rattle.rnc_print_laws.proofs.ReadBack.ReadMarks.{marks_are_read}

-- The printed text of a printable grammar breaks no clause of a file except that of its size, and has the tree of its
-- lines.
reads_back : MarksAreCut → MarksAreDecoded → (g : Grammar) (items : List PrintedItem) → IsPrintable g → IsItemsOf g items → length items < 2 ^ 64
    → length (namespaces g items) < 2 ^ 64 → IsReadAs (text_of g items) (lines_tree g items)
reads_back cut decoded g items p n lt few =
    let r = marks_are_read g items p lt few (items_printable g p items n) in
    record {
      characters = characters_of_marks r.numbers;
      decoded = subst (λ (x : List ℕ). IsDecoded x (characters_of_marks r.numbers)) (sym (text_is g items)) (marks_are_decoded decoded r.reads);
      tokens = tokens_at 0 (map piece_of_mark r.numbers);
      cut = marks_have_tokens cut r.reads;
      tree = subst (λ (x : List Lexeme). IsFileTree x (lines_tree g items)) (sym (tokens_are r.reads 0 1)) (tokens_read g items p n lt few 1);
    }

-- The printed text of a printable grammar, if it is not too long for a file, breaks no clause of a file and has the
-- tree of its lines.
pub printed_reads_back : MarksAreCut → MarksAreDecoded → (g : Grammar) (text : List ℕ) → IsPrintable g → (p : IsPrinted g text) → length text ≤ 1048576
    → IsReadAs text (lines_tree g p.items)
printed_reads_back cut decoded g text h p le =
    let few = items_few g text p in
    let a = few.0 in
    let b = few.1 in
    subst (λ (x : List ℕ). IsReadAs x (lines_tree g p.items)) (sym p.is)
    (reads_back cut decoded g p.items h p.numbered (omega (arith, a, le)) (omega (arith, b, le)))

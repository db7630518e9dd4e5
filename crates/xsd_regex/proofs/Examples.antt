-- Worked cases: texts that are expressions and what they mean, which characters classes have, and the tables.
use Rattle.std.proofs.Common.{◌≡◌, [], ◌∷◌, ◌++◌, codes, length, refl, arith, true, false, Some, None, not, ◌==◌, nat_le}
use Rattle.std.specs.List.{list_all}
use Rattle.ucd_category.specs.declared.GeneralCategory.TheVariants as one
use Rattle.rng_model.specs.regexes.Expressions.{category, either_class, minus, no_char, only_char, char_from_to, holds}
use Rattle.rng_model.specs.regexes.Expressions.{nothing_more, one_of, both, times, Denotes, one_is, so_often, no_copy, copy_and}
use Rattle.rng_model.specs.regexes.Blocks.{blocks}
use Rattle.rng_model.specs.regexes.Properties.{category_names, block_names}
use Rattle.rng_model.specs.regexes.Symbols.{escaped, class, IsSymbol, short, has_property, AreSymbols, no_symbols, symbol_and}
use Rattle.rng_model.specs.regexes.ExpressionGrammar.{chars_of, wildcard, IsExpression, branch, no_piece, piece_and, quantified, normal, one_or_more}
use Rattle.rng_model.specs.regexes.ExpressionGrammar.{IsClassExpression, bracketed, without, plain, IsPositive, positive, members, last_dash}
use Rattle.rng_model.specs.regexes.ExpressionGrammar.{first_member, first_dash, range, one_char, plain_end}

-- `\d\.`
symbols : AreSymbols (codes "\\d\\.") (class (category one.DecimalNumber) ∷ escaped 0x2E ∷ [])
symbols =
    symbol_and {s = codes "\\d"} {t = codes "\\."} (short {c = 0x64} refl)
    (symbol_and {s = codes "\\."} {t = []} (short {c = 0x2E} refl) no_symbols refl) refl

-- `\p{Lu}` and `\p{IsGreek}`
upper_case : IsSymbol (codes "\\p{Lu}") (class (category one.UppercaseLetter))
upper_case = has_property (codes "Lu") refl refl

greek : IsSymbol (codes "\\p{IsGreek}") (class (char_from_to 0x370 0x3FF))
greek = has_property (codes "IsGreek") refl refl

-- `a+`, and a text that it matches
a_some : IsExpression (chars_of (codes "a+")) (both nothing_more (times 1 None (one_of (only_char 0x61))))
a_some =
    branch (piece_and {us = []} {vs = chars_of (codes "a+")} no_piece
    (quantified {us = chars_of (codes "a")} {vs = chars_of (codes "+")} (normal {c = 0x61} refl) one_or_more refl) refl)

twice_a : Denotes (times 1 (Some 3) (one_of (only_char 0x61))) (codes "aa")
twice_a =
    so_often 2
    (copy_and {s = codes "a"} {t = codes "a"} (one_is {k = only_char 0x61} {c = 0x61} refl)
    (copy_and {s = codes "a"} {t = []} (one_is {k = only_char 0x61} {c = 0x61} refl) no_copy refl) refl) (omega arith) (omega arith)

-- `[a-z-[e]]`
without_e : IsClassExpression (chars_of (codes "[a-z-[e]]")) (minus (either_class no_char (char_from_to 0x61 0x7A)) (either_class no_char (only_char 0x65)))
without_e =
    bracketed {us = chars_of (codes "a-z-[e]")}
    (without {us = chars_of (codes "a-z")} {vs = chars_of (codes "[e]")}
    (positive (members (first_member (range (plain_end {c = 0x61} refl) (plain_end {c = 0x7A} refl) (omega arith)))) refl)
    (bracketed {us = chars_of (codes "e")} (plain (positive (members (first_member (one_char (plain_end {c = 0x65} refl)))) refl)) refl) refl) refl

-- `--`, of `[--]`
dashes : IsPositive (chars_of (codes "--")) (either_class (either_class no_char (only_char 0x2D)) (only_char 0x2D))
dashes = last_dash {us = chars_of (codes "-")} first_dash refl

-- `.` has no carriage return and no line feed
no_return : holds wildcard 0xD ≡ false
no_return = refl

no_feed : holds wildcard 0xA ≡ false
no_feed = refl

any_other : holds wildcard 0x61 ≡ true
any_other = refl

-- the table of blocks: 93 names, and no range that is empty
all_blocks : length blocks ≡ 93
all_blocks = refl

are_ranges : list_all (λ b. list_all (λ r. nat_le r.0 r.1) b.1) blocks ≡ true
are_ranges = refl

-- no property has a `}` in its name
no_brace : list_all (λ p. list_all (λ c. not (c == 0x7D)) p.0) (category_names ++ block_names) ≡ true
no_brace = refl

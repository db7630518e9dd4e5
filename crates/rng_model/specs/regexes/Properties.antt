-- The properties of characters that have names: general categories and blocks (XML Schema Part 2, Second Edition, section
-- F.1.1, productions 27 to 36). The categories are those of the Unicode version of the kit.
use Rattle.std.specs.Prelude.{codes, ℕ, List, [], ◌∷◌, ◌++◌, map, Option}
use Rattle.ucd_category.specs.declared.GeneralCategory.TheVariants as one
use Rattle.ucd_category.specs.declared.GeneralCategoryGroup.TheVariants as group
use Rattle.rng_model.specs.datatypes.Facets.{named}
use Rattle.rng_model.specs.regexes.Expressions.{Class, ranges, category, categories}
use Rattle.rng_model.specs.regexes.Blocks.{blocks}

-- the general categories, without `Cs`, since no text has a surrogate (productions 28 to 35)
abbrev pub category_names : List (List ℕ × Class)
category_names =
    (codes "L", categories group.Letter) ∷ (codes "Lu", category one.UppercaseLetter) ∷ (codes "Ll", category one.LowercaseLetter) ∷
    (codes "Lt", category one.TitlecaseLetter) ∷ (codes "Lm", category one.ModifierLetter) ∷ (codes "Lo", category one.OtherLetter) ∷
    (codes "M", categories group.Mark) ∷ (codes "Mn", category one.NonspacingMark) ∷ (codes "Mc", category one.SpacingMark) ∷
    (codes "Me", category one.EnclosingMark) ∷
    (codes "N", categories group.Number) ∷ (codes "Nd", category one.DecimalNumber) ∷ (codes "Nl", category one.LetterNumber) ∷
    (codes "No", category one.OtherNumber) ∷
    (codes "P", categories group.Punctuation) ∷ (codes "Pc", category one.ConnectorPunctuation) ∷
    (codes "Pd", category one.DashPunctuation) ∷ (codes "Ps", category one.OpenPunctuation) ∷ (codes "Pe", category one.ClosePunctuation) ∷
    (codes "Pi", category one.InitialPunctuation) ∷ (codes "Pf", category one.FinalPunctuation) ∷
    (codes "Po", category one.OtherPunctuation) ∷
    (codes "Z", categories group.Separator) ∷ (codes "Zs", category one.SpaceSeparator) ∷ (codes "Zl", category one.LineSeparator) ∷
    (codes "Zp", category one.ParagraphSeparator) ∷
    (codes "S", categories group.Symbol) ∷ (codes "Sm", category one.MathSymbol) ∷ (codes "Sc", category one.CurrencySymbol) ∷
    (codes "Sk", category one.ModifierSymbol) ∷ (codes "So", category one.OtherSymbol) ∷
    (codes "C", categories group.Other) ∷ (codes "Cc", category one.Control) ∷ (codes "Cf", category one.Format) ∷
    (codes "Co", category one.PrivateUse) ∷ (codes "Cn", category one.Unassigned) ∷ []

-- the blocks, each name with `Is` before it (production 36)
abbrev pub block_names : List (List ℕ × Class)
block_names = map (λ b. (codes "Is" ++ b.0, ranges b.1)) blocks

-- charProp (production 27): the class of the property of that name
abbrev pub property_named : List ℕ → Option Class
property_named name = named name (category_names ++ block_names)

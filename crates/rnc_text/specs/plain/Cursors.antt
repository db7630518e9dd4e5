-- Cursors in a decoded text, and what the functions of `src/scanning.rt` find there.
use Rattle.std.specs.Prelude.{◌≡◌, ℕ, List, [], ◌++◌, Option, Some, None}
use Rattle.std.specs.Str.{chars}
use Rattle.rnc_model.specs.declared.character.Character.{Character}
use Rattle.rnc_text.specs.declared.cursor.Cursor.{Cursor}
use Rattle.rnc_text.specs.declared.scanning.Part.{Part}
use Rattle.rnc_text.specs.declared.scanning.Part.TheVariants as parts
use Rattle.rnc_model.specs.declared.token.TokenKind.{TokenKind}
use Rattle.rnc_model.specs.characters.Decoding.{bytes_of}
use Rattle.rnc_text.specs.views.Held.{marked}
use Rattle.rnc_model.specs.tokens.Tokens.{Piece, gap, token, characters_in, three}
use Rattle.rnc_text.specs.plain.CutSteps.{Found, front, after}
use Rattle.rnc_text.specs.declared.scanning.Class.{Class}

-- the characters from a cursor on
abbrev pub remaining : Cursor → List Character
remaining c = marked c.length c.escaped.now (chars c.rest.now)

-- these characters are between two cursors
pub record IsPast (from : Cursor) (taken : List Character) (to : Cursor) : Type 0 where
  pub rest : remaining from ≡ taken ++ remaining to
  pub bytes : from.rest.now ≡ bytes_of taken ++ to.rest.now
  pub whole : to.length ≡ from.length

-- the second cursor is not before the first
pub record IsBefore (from to : Cursor) : Type 0 where
  pub taken : List Character
  pub past : IsPast from taken to

-- the walk past the characters of a class is at `to`, where the remaining part of the front begins
pub record Walks (class : Class) (from to : Cursor) : Type 0 where
  pub taken : List Character
  pub past : IsPast from taken to
  pub front : front class (remaining from) ≡ taken ++ front class (remaining to)
  pub after : after class (remaining from) ≡ after class (remaining to)

-- the kind and the text of a token
abbrev pub said : Piece → Option (TokenKind × List ℕ)
said (gap all) = None
said (token kind says all) = Some (kind, bytes_of says)

abbrev pub told : Part → Option (TokenKind × List ℕ)
told parts.Gap = None
told (parts.Token kind text) = Some (kind, text.now)

-- the part ends at a cursor, and is the piece that was to be found
pub record FindsPart (from : Cursor) (part : Part) (to : Cursor) (found : Found) : Type 0 where
  pub piece : Piece
  pub is : found ≡ Some (piece, remaining to)
  pub past : IsPast from (characters_in piece) to
  pub says : told part ≡ said piece

abbrev pub Finds : Cursor → Option (Part × Cursor) → Found → Type 0
Finds from None found = found ≡ None
Finds from (Some x) found = FindsPart from x.0 x.1 found

-- a cursor after another one is found, with these characters between them
abbrev pub FindsBehind : Cursor → Option Cursor → List Character → Option (List Character) → Type 0
FindsBehind from None taken found = found ≡ None
FindsBehind from (Some to) taken found = (found ≡ Some (remaining to)) × IsPast from taken to

-- the content before three quotes is found, with the cursor after them
pub record FindsThree (from : Cursor) (end : Cursor) (to : Cursor) (quote : ℕ) (found : Option (List Character × List Character)) : Type 0 where
  pub content : List Character
  pub is : found ≡ Some (content, remaining to)
  pub past : IsPast from content end
  pub quotes : IsPast end (three quote []) to

abbrev pub FindsContent : Cursor → Option (Cursor × Cursor) → ℕ → Option (List Character × List Character) → Type 0
FindsContent from None quote found = found ≡ None
FindsContent from (Some x) quote found = FindsThree from x.0 x.1 quote found

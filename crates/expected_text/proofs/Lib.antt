mod FieldChars
mod ClassParts

mod ProfileCompiled
mod WrittenTexts
mod RefusedNames

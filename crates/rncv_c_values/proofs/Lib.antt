mod JoinedNames

use Rattle.rnc_text.proofs.cursor.Cursor.new.Goals as goal

pub returns-clause-characters : goal.returns-clause-characters
returns-clause-characters c = rw c.as_str-rest.ensures c.escaped.ensures

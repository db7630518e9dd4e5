-- What handles hold.
use Rattle.std.specs.Prelude.{Option, Some, None}
use Rattle.rng_model.specs.simple.Table.{Table}
use Rattle.rncv_validator.specs.views.FedDocuments.{Judging}
use Rattle.rncv_events.specs.views.Told as told
use Rattle.rncv_c_handles.specs.declared.handle.Held.{Held}
use Rattle.rncv_c_handles.specs.declared.handle.Held.TheVariants.{Schema, Document, Events}

-- the grammar of a schema, with no document begun
abbrev pub schema_in : Option Held → Option Table
schema_in None = None
schema_in (Some (Schema grammar)) = Some grammar
schema_in (Some (Document document)) = None
schema_in (Some (Events document)) = None

-- the document in PYX that is begun
abbrev pub document_in : Option Held → Option Judging
document_in None = None
document_in (Some (Schema grammar)) = None
document_in (Some (Document document)) = Some document
document_in (Some (Events document)) = None

-- the document of events that is begun
abbrev pub events_in : Option Held → Option told.Judging
events_in None = None
events_in (Some (Schema grammar)) = None
events_in (Some (Document document)) = None
events_in (Some (Events document)) = Some document

-- the grammar that judges documents, with or without one begun
abbrev pub grammar_in : Option Held → Option Table
grammar_in None = None
grammar_in (Some (Schema grammar)) = Some grammar
grammar_in (Some (Document document)) = Some document.grammar
grammar_in (Some (Events document)) = Some document.grammar

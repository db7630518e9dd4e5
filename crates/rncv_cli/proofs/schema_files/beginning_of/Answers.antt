use Rattle.rncv_cli.proofs.FileBeginning.{beginning_is_kept, beginning_is_read}
use Rattle.rncv_cli.proofs.schema_files.beginning_of.Goals as goal

pub returns-clause-bytes : goal.returns-clause-bytes
returns-clause-bytes g c = beginning_is_kept 1048577 (g.T.Read.remaining c.args.reader) _ _ c.truncate.ensures.items
    (beginning_is_read 1048577 g.T.Read.remaining _ _ _ _ c.take.ensures.limit c.take.ensures.inner c.new-bytes.ensures.items c.in_ok-read_to_end.ensures.bytes)

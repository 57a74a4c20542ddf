use Rattle.luigid.proofs.Transcripts.{front_written, whole_written}
use Rattle.luigid.proofs.laws.transcripts_are_written.Goals as goal

pub returns-clause-front : goal.returns-clause-front
returns-clause-front c journal lane connection s served = front_written s.end s served.has_end

pub returns-clause-whole : goal.returns-clause-whole
returns-clause-whole c journal lane connection s served fine = whole_written s.end s served.has_end fine

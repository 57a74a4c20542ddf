-- The calls that an event of files in memory stands for. This project's own.
use Rattle.std.specs.Prelude.{List, [], ◌∷◌}
use Rattle.lg_io.specs.declared.memory.file_history.FileEvent.{FileEvent}
use Rattle.lg_io.specs.declared.memory.file_history.FileEvent.TheVariants as event
use Rattle.lg_io.specs.Files.{FileCall, FileAnswer, AnsweredCall, read, create, append, close, rename, remove, exists, make_folder, read_answer, done_answer, exists_answer}

abbrev pub one_call : FileCall → FileAnswer → List AnsweredCall
one_call call answer = record { call = call; answer = answer } ∷ []

abbrev pub calls_of : FileEvent → List AnsweredCall
calls_of event.Appeared = []
calls_of (event.Read path answer) = one_call (read path.now) (read_answer answer.now)
calls_of (event.Create path answer) = one_call (create path.now) (done_answer answer.now)
calls_of (event.Append path piece answer) = one_call (append path.now piece.now) (done_answer answer.now)
calls_of (event.Close path answer) = one_call (close path.now) (done_answer answer.now)
calls_of (event.Rename from to answer) = one_call (rename from.now to.now) (done_answer answer.now)
calls_of (event.Remove path answer) = one_call (remove path.now) (done_answer answer.now)
calls_of (event.Exists path answer) = one_call (exists path.now) (exists_answer answer.now)
calls_of (event.MakeFolder path answer) = one_call (make_folder path.now) (done_answer answer.now)

-- The arguments of `ping`, and what it does. This project's own, after Luigi's RPC.
use Rattle.std.specs.Prelude.{codes}
use Rattle.lg_json.specs.Fields.{text_in}
use Rattle.lg_calls.specs.declared.methods.ping.Ping.{Ping}
use Rattle.lg_calls.specs.Reading.{Reading, ◌>>=◌, needed, done}
use Rattle.lg_json.specs.Tree.{Tree, list, no_trees, object, no_members, member}

abbrev pub ping : Reading Ping
ping =
    needed text_in (codes "worker") >>= λ worker.
    done (record { worker = worker })

-- what is replied to a worker: nobody sent it a message
abbrev pub no_messages : Tree
no_messages = object (member (codes "rpc_messages") (list no_trees) no_members)

-- What callers may cite of the proofs of this crate.
pub use Rattle.lg_desk.proofs.Ends.{over_for_good}
pub use Rattle.lg_desk.proofs.Journals.{goes_on_more, goes_on_nothing, goes_on_once, alone_more, stop_is_over, front_of_front, open_front, none_behind-nil}
pub use Rattle.lg_desk.proofs.Pushes.{good-push, open-push, marked-push, counted-push}
pub use Rattle.lg_desk.proofs.Replays.{answer_to, replay-push, answered-push, entries_answered, made-push, replayed_on}
pub use Rattle.lg_desk.proofs.Passes.{answers_go_on}

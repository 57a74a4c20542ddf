-- The connections of a lane so far, and one more.
use Rattle.std.proofs.Common.{◌≡◌, ℕ, ◌+◌, ◌<◌, true, false, List, [], ◌∷◌, ◌++◌, map, length, refl, sym, ◌∙◌, ap, subst, arith, eq-eqb, All, Option, Some, None, option_map, length-append, append_assoc}
use Rattle.std.proofs.lemmas.Grind.{flat_map-append}
use Rattle.std.proofs.lemmas.List.{append-nil, length-map, map-append}
use Rattle.std.proofs.lemmas.List.Elements.{All-head, All-tail}
use Rattle.std.specs.List.{flat_map}
use Rattle.std.specs.Prelude.{◌==◌, MatchOption}
use Rattle.lg_io.specs.Clock.{ClockCall, reading}
use Rattle.lg_io.specs.Door.{conn, accepted, DoorTold, told_done, done_with, IsFresh, HasNoLinkOut}
use Rattle.lg_io.specs.Link.{LinkTold, fresh_link}
use Rattle.lg_io.specs.Tells.{TellsOn}
use Rattle.lg_io.proofs.CallerLemmas.{TellsOn-nothing, TellsOn-append}
use Rattle.lg_desk.specs.declared.journal.Entry.{Entry}
use Rattle.lg_calls.specs.declared.state.State.{State}
use Rattle.lg_desk.specs.Journal.{is_over, GoesOnBy}
use Rattle.luigid.specs.Lane.{IsLane, NoLinkBehindEnd, entries_of}
use Rattle.lg_desk.specs.Replay.{Answered, answered, made_by}
use Rattle.luigid.specs.Serving.{Serves}
use Rattle.luigid.specs.Session.{Session, IsServed, calls_of, moments_of}
use Rattle.lg_desk.proofs.CallerLemmas.{front_of_front, open_front}
use Rattle.luigid.proofs.Places.{Each-push, Each-map}
use Rattle.lg_desk.proofs.CallerLemmas.{entries_answered}
use Rattle.luigid.proofs.Servings.{all_stay}

-- the connections so far were served, so many; behind the first the door's last answer handed out a link
pub record ServedSoFar (base : State) (journal : List Entry) (lane connections : ℕ) (old told : DoorTold) (before now : Option (List ClockCall)) : Type 0 where
  pub sessions : List Session
  pub as_lane : IsLane base journal lane old told before now sessions
  pub count : length sessions ≡ connections
  pub last : 0 < connections → told.last ≡ Some conn

-- a door that tells goes on telling so, and one that doesn't goes on not telling
abbrev pub SoFar : State → List Entry → ℕ → ℕ → Option DoorTold → Option DoorTold → Option (List ClockCall) → Option (List ClockCall) → Type 0
SoFar base journal lane connections first now before calls =
    MatchOption first (now ≡ None) (λ old. (told : DoorTold) × (now ≡ Some told) × ServedSoFar base journal lane connections old told before calls)

-- a connection stays served where the journal goes on
stays_served : (old new : List Entry) (lane connection : ℕ) (session : Session) → GoesOnBy lane old new → IsServed old lane connection session → IsServed new lane connection session
stays_served old new lane connection session goes served = record {
  messages = served.messages;
  received = served.received;
  answered = all_stay lane connection old new session.handled goes served.answered;
  ended = served.ended;
  has_end = served.has_end;
}

-- the readings for one more session
read_more : (sessions : List Session) (session : Session) → map reading (flat_map moments_of (sessions ++ session ∷ [])) ≡ map reading (flat_map moments_of sessions) ++ map reading (moments_of session)
read_more sessions session =
    ap (map reading) (flat_map-append moments_of sessions (session ∷ []) ∙ ap (λ last. flat_map moments_of sessions ++ last) (append-nil (moments_of session)))
    ∙ map-append reading (flat_map moments_of sessions) (moments_of session)

-- the calls of one more session
calls_more : (sessions : List Session) (session : Session) → flat_map calls_of (sessions ++ session ∷ []) ≡ flat_map calls_of sessions ++ calls_of session
calls_more sessions session = flat_map-append calls_of sessions (session ∷ []) ∙ ap (λ last. flat_map calls_of sessions ++ last) (append-nil (calls_of session))

-- a filter that each item passes keeps all
filter_all : (lane : ℕ) (calls : List Answered) → All (λ (e : Entry). e.pass ≡ lane) (map (λ (a : Answered). a.entry) calls) → made_by lane calls ≡ calls
filter_all lane [] all = refl
filter_all lane (a ∷ calls) all =
    let here : a.entry.pass == lane ≡ true = eq-eqb a.entry.pass lane (All-head (λ (e : Entry). e.pass ≡ lane) a.entry _ all) in
    rw here (ap (λ rest. a ∷ rest) (filter_all lane calls (All-tail (λ (e : Entry). e.pass ≡ lane) a.entry _ all)))

-- the sessions' entries are the journal's, where no other lane made any
entries_are : (base : State) (journal : List Entry) (lane : ℕ) (sessions : List Session) → All (λ (e : Entry). e.pass ≡ lane) journal
    → made_by lane (answered base journal) ≡ flat_map calls_of sessions → entries_of sessions ≡ journal
entries_are base journal lane sessions alone made =
    ap (map (λ (a : Answered). a.entry)) (sym made ∙ filter_all lane (answered base journal) (subst (All (λ (e : Entry). e.pass ≡ lane)) (sym (entries_answered base journal)) alone))
    ∙ entries_answered base journal

-- one more link was accepted while nothing was over
no_link-push : (sessions : List Session) (session : Session) → is_over (entries_of sessions) ≡ false → NoLinkBehindEnd (sessions ++ session ∷ [])
no_link-push sessions session still front s back is =
    let more = front_of_front sessions front back session s is in
    let parts : entries_of sessions ≡ entries_of front ++ entries_of more.0 =
    ap entries_of more.1 ∙ ap (map (λ (a : Answered). a.entry)) (flat_map-append calls_of front more.0) ∙ map-append (λ (a : Answered). a.entry) (flat_map calls_of front) (flat_map calls_of more.0) in
    open_front (entries_of front) (entries_of more.0) (rw (← parts) still)

-- nothing was served yet
served_nothing : (base : State) (lane : ℕ) (old : DoorTold) (calls : Option (List ClockCall)) → ServedSoFar base [] lane 0 old old calls calls
served_nothing base lane old calls = record {
  sessions = [];
  as_lane = record {
    links = sym (append-nil old.ended);
    all_back = omega arith;
    served = λ place session is. absurd (cc);
    made = refl;
    read = TellsOn-nothing calls;
    none_behind = λ front s back is. absurd (omega (arith, ap length is, length-append front (s ∷ back)));
  };
  count = refl;
  last = λ some. absurd (omega arith);
}

pub so_far_nothing : (base : State) (journal : List Entry) (lane : ℕ) (door : Option DoorTold) (calls : Option (List ClockCall)) → journal ≡ [] → SoFar base journal lane 0 door door calls calls
so_far_nothing base journal lane None calls empty = refl
so_far_nothing base journal lane (Some old) calls empty = (old, refl, rw empty (served_nothing base lane old calls))

-- one more connection of a door that tells
one_more : (base : State) (journal new : List Entry) (lane connections : ℕ) (old told : DoorTold) (before now after : Option (List ClockCall)) (link : LinkTold)
    → ServedSoFar base journal lane connections old told before now → is_over journal ≡ false → All (λ (e : Entry). e.pass ≡ lane) journal → GoesOnBy lane journal new
    → (s : Serves base lane connections journal new now after link)
    → ServedSoFar base new lane (connections + 1) old (done_with s.session.link (accepted conn told)) before after
one_more base journal new lane connections old told before now after link so_far still alone goes s =
    let more : length (so_far.sessions ++ s.session ∷ []) ≡ connections + 1 = simp length-append (omega (arith, so_far.count)) in
    let lane' = so_far.as_lane in
    record {
      sessions = so_far.sessions ++ s.session ∷ [];
      as_lane = record {
        links = ap (λ front. front ++ s.session.link ∷ []) lane'.links ∙ append_assoc old.ended _ _
            ∙ ap (λ back. old.ended ++ back) (sym (map-append (λ (x : Session). x.link) so_far.sessions (s.session ∷ [])));
        all_back = simp length-append (omega (arith, lane'.all_back));
        served = Each-push (IsServed new lane) so_far.sessions s.session
            (Each-map _ _ so_far.sessions (λ place session served. stays_served journal new lane place session goes served) lane'.served) (rw so_far.count s.served);
        made = s.made ∙ ap (λ front. front ++ calls_of s.session) lane'.made ∙ sym (calls_more so_far.sessions s.session);
        read = subst (TellsOn before after) (sym (read_more so_far.sessions s.session)) (TellsOn-append before now after _ _ lane'.read s.read);
        none_behind = no_link-push so_far.sessions s.session (rw (entries_are base journal lane so_far.sessions alone lane'.made) still);
      };
      count = more;
      last = λ some. refl;
    }

-- one more connection was served, and its link was handed back
pub so_far_more : (base : State) (journal new : List Entry) (lane connections : ℕ) (first door between behind : Option DoorTold) (before calls started ended after : Option (List ClockCall)) (fresh link : LinkTold)
    → SoFar base journal lane connections first door before calls
    → is_over journal ≡ false → All (λ (e : Entry). e.pass ≡ lane) journal
    → IsFresh door fresh → GoesOnBy lane journal new → started ≡ calls
    → (fresh ≡ fresh_link → Serves base lane connections journal new started after link)
    → between ≡ option_map (accepted conn) door → behind ≡ told_done link between → ended ≡ after
    → SoFar base new lane (connections + 1) first behind before ended
so_far_more base journal new lane connections None door between behind before calls started ended after fresh link so_far still alone is_fresh goes started_is serves between_is behind_is ended_is =
    rw (behind_is, between_is, so_far) refl
so_far_more base journal new lane connections (Some old) door between behind before calls started ended after fresh link so_far still alone is_fresh goes started_is serves between_is behind_is ended_is =
    let told = so_far.0 in
    let is_fresh' : IsFresh (Some told) fresh = subst (λ d. IsFresh d fresh) so_far.1 is_fresh in
    let s : Serves base lane connections journal new calls after link = subst (λ c. Serves base lane connections journal new c after link) started_is (serves is_fresh'.told) in (
      done_with s.session.link (accepted conn told),
      rw (behind_is, between_is, so_far.1, s.link_is) refl,
      rw ended_is (one_more base journal new lane connections old told before calls after link so_far.2 still alone goes s),
    )

-- each link of a door that tells was handed back so far
pub none_out : (base : State) (journal : List Entry) (lane connections : ℕ) (first now : Option DoorTold) (before calls : Option (List ClockCall))
    → SoFar base journal lane connections first now before calls → HasNoLinkOut first → HasNoLinkOut now
none_out base journal lane connections None now before calls so_far none = rw so_far tt
none_out base journal lane connections (Some old) now before calls so_far none =
    let lane' = so_far.2.as_lane in
    let ended : length so_far.0.ended ≡ length old.ended + length so_far.2.sessions =
    ap length lane'.links ∙ length-append old.ended _ ∙ ap (λ n. length old.ended + n) (length-map so_far.2.sessions (λ (s : Session). s.link)) in
    rw so_far.1 (omega (arith, ended, lane'.all_back, none))

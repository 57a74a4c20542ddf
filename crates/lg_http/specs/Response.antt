-- The bytes of a response (RFC 9112, section 4; the reasons are those of RFC 9110, section 15). The bodies are this
-- project's own, after Luigi's.
use Rattle.std.specs.Prelude.{ℕ, ◌+◌, Bool, List, [], ◌++◌, length, Option, Some, None, unwrap_or, IsSome, if◌then◌else◌, ◌==◌, codes}
use Rattle.std.specs.Fmt.{decimal}
use Rattle.lg_json.specs.Capped.{capped}
use Rattle.lg_json.specs.Text.{text_of}
use Rattle.lg_json.specs.Tree.{Tree}

-- each status with its reason
abbrev pub reason_of : ℕ → Option (List ℕ)
reason_of status =
    if status == 200 then Some (codes "OK")
    else (if status == 400 then Some (codes "Bad Request")
    else (if status == 404 then Some (codes "Not Found")
    else (if status == 405 then Some (codes "Method Not Allowed")
    else (if status == 409 then Some (codes "Conflict")
    else (if status == 411 then Some (codes "Length Required")
    else (if status == 413 then Some (codes "Content Too Large")
    else (if status == 431 then Some (codes "Request Header Fields Too Large")
    else (if status == 501 then Some (codes "Not Implemented")
    else (if status == 503 then Some (codes "Service Unavailable")
    else (if status == 507 then Some (codes "Insufficient Storage")
    else None))))))))))

-- a status that a response may have
abbrev pub IsStatus : ℕ → Type 0
IsStatus status = IsSome (reason_of status)

-- a response's tree stands under this key, an error's under the other
abbrev pub opening : ℕ → List ℕ
opening status = if status == 200 then codes "{\"response\":" else codes "{\"error\":"

-- an object of one member
abbrev pub body_of : ℕ → Tree → List ℕ
body_of status tree = opening status ++ (text_of tree ++ codes "}")

-- the field that ends the connection
abbrev pub closing : Bool → List ℕ
closing last = if last then codes "Connection: close\r\n" else []

-- the lines before the body
unfoldable pub head_of : ℕ → ℕ → Bool → List ℕ
head_of status size last =
    codes "HTTP/1.1 " ++ decimal status ++ codes " " ++ unwrap_or (reason_of status) [] ++ codes "\r\n"
    ++ codes "Content-Type: application/json\r\n"
    ++ codes "Content-Length: " ++ decimal size ++ codes "\r\n"
    ++ closing last
    ++ codes "\r\n"

-- the response with this status, whose tree is a reply at 200 and a text of what is wrong at each other
abbrev pub response_bytes : ℕ → Tree → Bool → List ℕ
response_bytes status tree last =
    let body = body_of status tree in head_of status (capped (length body)) last ++ body

-- what stands before a tree whose text has so many bytes
abbrev pub front_of : ℕ → ℕ → Bool → List ℕ
front_of status size last = head_of status (capped (size + (length (opening status) + 1))) last ++ opening status

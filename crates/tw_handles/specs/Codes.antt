-- The codes that calls return: zero, or the code of an error. 200 and a number are the error O with this number.
use Rattle.std.specs.Prelude.{◌==◌, if◌then◌else◌}
use Rattle.tw_handles.specs.Names.{ℕ, OpenError}
use Rattle.tw_pool.specs.declared.open.OpenError.TheVariants.{InputCount, InputType, MissingTarget, LimitRange, NoMemory}

abbrev pub done : ℕ
done = 0

abbrev pub input_count : ℕ
input_count = 201

abbrev pub no_limit : ℕ
no_limit = 204

abbrev pub no_memory : ℕ
no_memory = 205

abbrev pub above_cap : ℕ
above_cap = 207

abbrev pub no_program : ℕ
no_program = 211

abbrev pub no_inputs : ℕ
no_inputs = 212

abbrev pub no_container : ℕ
no_container = 213

abbrev pub no_stop : ℕ
no_stop = 214

abbrev pub no_report : ℕ
no_report = 215

abbrev pub no_string : ℕ
no_string = 216

abbrev pub no_options : ℕ
no_options = 221

abbrev pub no_layout : ℕ
no_layout = 222

abbrev pub no_index : ℕ
no_index = 223

abbrev pub no_text : ℕ
no_text = 224

abbrev pub no_utf8 : ℕ
no_utf8 = 225

abbrev pub no_room : ℕ
no_room = 226

abbrev pub no_end : ℕ
no_end = 227

abbrev pub rejected : ℕ
rejected = 229

abbrev pub no_order : ℕ
no_order = 230

abbrev pub no_list : ℕ
no_list = 231

abbrev pub unfinished : ℕ
unfinished = 232

-- returns the code of a run that isn't opened
abbrev pub open_code : OpenError → ℕ
open_code InputCount = 201
open_code InputType = 202
open_code MissingTarget = 203
open_code LimitRange = 204
open_code NoMemory = 205

-- returns the code of a verdict with this letter; 77 is M
abbrev pub loading_code : ℕ → ℕ
loading_code letter = if letter == 0 then done else (if letter == 77 then no_memory else rejected)
